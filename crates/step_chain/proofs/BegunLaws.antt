-- The nodes of a worksheet's unknowns and formulas are a chained store.
use Rattle.std.specs.Prelude.{◌≡◌, ℕ, ◌<◌, ◌≤◌, ◌+◌, List, [], ◌∷◌, ◌++◌, length, map, sum, slice_get, slice_index_or, Option, Some, None, Result, Ok, Err, IfOk, Contains, refl}
use Rattle.std.specs.List.{AllByRecursion}
use Rattle.std.specs.Option.{option_map_or}
use Rattle.std.proofs.Common.{zero, suc, get_or, sym, ap, subst, ◌∙◌, arith, inl, inr}
use Rattle.std.proofs.lemmas.List.{append_assoc, append-nil, length_push}
use Rattle.std.proofs.lemmas.Option.{slice_get-get_or}
use Rattle.mm_base.specs.declared.errors.Memory.{Memory}
use Rattle.mm_base.specs.declared.symbols.Typecode.{Typecode}
use Rattle.mm_base.specs.declared.symbols.Sym.{Sym}
use Rattle.mm_base.specs.declared.tree.Tree.{Tree}
use Rattle.mm_base.specs.declared.tree.Tree.TheVariants as tree
use Rattle.mm_base.specs.Trees.{code_of}
use Rattle.mm_model.specs.declared.rows.Production.{Production}
use Rattle.mm_model.specs.Book.{Database, logic_code}
use Rattle.mm_database.specs.Books.{database_of}
use Rattle.mm_database.specs.Opened.{Opened}
use Rattle.sheet_text.specs.declared.sheet.Sheet.{Sheet}
use Rattle.solve_model.specs.Bound.{Binds}
use Rattle.mm_model.specs.Typed.{IsTyped}
use Rattle.solve_model.specs.declared.bound.BoundStep.{BoundStep}
use Rattle.solve_model.specs.declared.bound.Bound.{Bound}
use Rattle.solve_model.specs.Trees.{Open, work, fresh, Occurs}
use Rattle.solve_model.specs.Solutions.{Unknown, named, blank, copy, IsUnknown, in_formula, is_blank, unknown_code, formula_value, open_value, no_step}
use Rattle.solve_model.proofs.TreeLaws.{open_leaves-Node}
use Rattle.solve_laws.proofs.NoFresh.{no_fresh_leaf}
use Rattle.term_model.specs.declared.shape.Id.{Id}
use Rattle.term_model.specs.Terms.{Term, Var, Free, term_at, term_code}
use Rattle.term_model.specs.Store.{tree_at, Store, IsStore, IsSolved}
use Rattle.term_model.proofs.CycleLaws.{start_solution}
use Rattle.term_model.proofs.ClosureLaws.{agrees_refl}
use Rattle.chain_laws.specs.declared.leaves.WorkNode.{WorkNode}
use Rattle.term_model.specs.Sizes.{HaveConstants}
use Rattle.chain_laws.specs.Adding.{constants_in, Rooted, Listed, run, id_of, first_then, there_or, work_at, variable_at, added}
use Rattle.chain_laws.specs.Laws.{BoundIsReady}
use Rattle.chain_laws.specs.Layout.{Layout, IsChained, IsReadyFormula, IsReadyBound, Fit, valuation_of}
use Rattle.chain_laws.proofs.LeastLeaves.{nothing}
use Rattle.chain_laws.proofs.Listed.{OnceEach, unknowns, of_steps, place_in, place_back, all_of_worksheet, only_of_worksheet}
use Rattle.chain_laws.proofs.Grown.{fit_back, within_front}
use Rattle.chain_laws.proofs.Added.{IsMade, found_node, own_variable, added_made}
use Rattle.chain_laws.proofs.Built as built
use Rattle.step_chain.specs.declared.formulas.FormulaNodes.{FormulaNodes}
use Rattle.step_chain.specs.Grown.{IsGrown, AreIdsIn, AreWorksIn}
use Rattle.step_chain.specs.Levels.{IsLevel, IsFront}
use Rattle.step_chain.specs.Formulas.{Begun, nothing_begun, unknowns_of, formulas_of, blank_nodes, formula_adder, formula_adders, AreFormulas, formula_node, HasFormulas}
use Rattle.step_chain.specs.Sizes.{formulas_size}
use Rattle.step_chain.proofs.FormulaLaws.{blanks_count}
use Rattle.step_chain.proofs.CountLaws.{sum_cons, new_nodes, tree_adds, tree_size, unknowns_size, sizes_are, unknowns_few}
use Rattle.step_chain.proofs.UnknownLaws.{IsListed, free_for, works_from, IsFoundAt, found_at, IsBlankAt, StepsListing, steps_listed}

module _ (db : Database) (bound : Bound) (ready : IsReadyBound db bound)
    (us : List Unknown) (b : Begun) (is : IsListed (logic_code db) us b)
    (all : (u : Unknown) → Contains (of_steps 0 bound.steps) u → Contains us u) (only : (u : Unknown) → Contains us u → Contains (of_steps 0 bound.steps) u) where
  abbrev logic : Typecode
  logic = logic_code db

  abbrev once : OnceEach (unknowns bound [])
  once = record { list = us; distinct = is.distinct; all = all_of_worksheet bound us all; only = only_of_worksheet bound us only }

  abbrev On : Unknown → Type 0
  On u = IsUnknown bound [] u

  abbrev base : List Term
  base = built.base db bound [] once

  abbrev lay : Layout
  lay = built.lay db bound [] once

  abbrev Grows : List Term → Type 0
  Grows nodes = built.Grows db bound [] once nodes

  -- ---- the first nodes

  free_same : (ws : List Unknown) → map (free_for logic) ws ≡ map (λ (u : Unknown). Free (unknown_code db u)) ws
  free_same [] = refl
  free_same (named c n ∷ ws) = ap (λ (ts : List Term). Free c ∷ ts) (free_same ws)
  free_same (blank i ∷ ws) = ap (λ (ts : List Term). Free logic ∷ ts) (free_same ws)
  free_same (copy i s c ∷ ws) = ap (λ (ts : List Term). Free c ∷ ts) (free_same ws)

  base_is : b.nodes ≡ base
  base_is = is.nodes ∙ free_same us

  abbrev IsTail : ℕ → List Unknown → Type 0
  IsTail k ws = (i : ℕ) → i < length ws → (k + i < length us) × (get_or us (k + i) (blank 0) ≡ get_or ws i (blank 0))

  tail_of : (k : ℕ) (w : Unknown) (ws : List Unknown) → IsTail k (w ∷ ws) → IsTail (k + 1) ws
  tail_of k w ws h i below =
      let told = h (suc i) (omega (arith, below)) in
      let number : k + suc i ≡ k + 1 + i = omega arith in
      (subst (λ (j : ℕ). j < length us) number told.0, subst (λ (j : ℕ). get_or us j (blank 0) ≡ get_or ws i (blank 0)) number told.1)

  place_at : (k : ℕ) (w : Unknown) (ws : List Unknown) → IsTail k (w ∷ ws) → place_in us w ≡ k
  place_at k w ws h =
      let told = h 0 (omega arith) in
      let number : k + 0 ≡ k = omega arith in
      let here : get_or us k (blank 0) ≡ w = subst (λ (j : ℕ). get_or us j (blank 0) ≡ w) number told.1 in
      let below : k < length us = subst (λ (j : ℕ). j < length us) number told.0 in
      ap (place_in us) (sym here) ∙ place_back (blank 0) us k is.distinct below

  abbrev entry_with : Typecode → ℕ → ℕ → WorkNode
  entry_with c n i = record { code = c; number = n; node = i }

  works_same : (k : ℕ) (ws : List Unknown) → IsTail k ws → works_from k ws ≡ built.works_of db bound [] once ws
  works_same k [] h = refl
  works_same k (named c n ∷ ws) h =
      let rest = works_same (k + 1) ws (tail_of k (named c n) ws h) in
      ap (λ (i : ℕ). entry_with c n i ∷ works_from (k + 1) ws) (sym (place_at k (named c n) ws h)) ∙ ap (λ (xs : List WorkNode). entry_with c n (place_in us (named c n)) ∷ xs) rest
  works_same k (blank i ∷ ws) h = works_same (k + 1) ws (tail_of k (blank i) ws h)
  works_same k (copy i s c ∷ ws) h = works_same (k + 1) ws (tail_of k (copy i s c) ws h)

  whole : IsTail 0 us
  whole i below = let number : i ≡ 0 + i = omega arith in (subst (λ (j : ℕ). j < length us) number below, ap (λ (j : ℕ). get_or us j (blank 0)) (sym number))

  works_are : lay.works ≡ b.works
  works_are = sym (is.works ∙ works_same 0 us whole)

  -- ---- the node of an unknown

  placed : (c : Typecode) (n : ℕ) (o : Option ℕ) → Contains us (named c n) → IsFoundAt 0 us c n o → o ≡ Some (place_in us (named c n))
  placed c n None h off = absurd (off h)
  placed c n (Some i) h at =
      let e = at.is in
      let number : i ≡ at.at = omega (arith, e) in
      let place : place_in us (named c n) ≡ at.at = ap (place_in us) (sym at.there) ∙ place_back (blank 0) us at.at is.distinct at.within in
      ap (λ (j : ℕ). Some j) (number ∙ sym place)

  work_is : (c : Typecode) (n : ℕ) → On (named c n) → work_at b.works c n ≡ Some (place_in us (named c n))
  work_is c n on = placed c n (work_at b.works c n) (built.listed_all db bound [] once (named c n) on) (subst (λ (ws : List WorkNode). IsFoundAt 0 us c n (work_at ws c n)) (sym is.works)
      (found_at 0 us c n))

  abbrev Makes : List Term → Rooted → Typecode → (List Tree → Tree) → Type 0
  Makes nodes r c f = IsMade db.rows bound.place base b.works [] nodes r c f

  unknown_made : (nodes : List Term) (u : Unknown) (c : Typecode) (o : Option ℕ) → On u → unknown_code db u ≡ c → o ≡ Some (place_in us u) → Grows nodes
      → Makes nodes (there_or o (Free c) nodes) c (λ vs. valuation_of lay vs u)
  unknown_made nodes u c o on code e g =
      let h = built.node_of db bound [] once nodes g u on in
      found_node db.rows bound.place base b.works [] nodes c (λ vs. valuation_of lay vs u) o (Free c) (place_in us u) e g h.within (ap term_code h.free ∙ code) (λ vs f. refl)

  -- ---- formulas

  tree_made : (t : Tree) → built.FormulaOk db bound [] once t → IsTyped db.rows bound.place t → (nodes : List Term) → Grows nodes
      → Makes nodes (added db.rows b.works [] t nodes) (code_of t) (λ vs. formula_value (valuation_of lay vs) 0 (Some t))
  tree_made = added_made db.rows bound.place base b.works [] (λ vs s c. tree.Var s c) (λ vs x. open_value (valuation_of lay vs) x) (built.FormulaOk db bound [] once)
      (λ c n h. h (fresh c n) (built.leaf_occurs_fresh db bound [] once c n))
      (λ l c ts h. built.each_ok db bound [] once ts (λ x o. h x (subst (λ (xs : List Open). Contains xs x) (sym (open_leaves-Node l c ts)) o)))
      (λ s c h nodes g. own_variable db.rows bound.place base b.works [] nodes s c refl g)
      (λ c n h nodes g. let on = h (work c n) (built.leaf_occurs_work db bound [] once c n) in unknown_made nodes (named c n) c (work_at b.works c n) on refl (work_is c n on) g)

  -- a formula's node is behind the store's nodes
  record IsFormulaMade (nodes : List Term) (r : Rooted) (i : ℕ) (o : Option Tree) : Type 0 where
    more : List Term
    extends : r.nodes ≡ nodes ++ more
    grown : Grows r.nodes
    within : r.root < length r.nodes
    means : (vs : List Tree) → Fit r.nodes vs → tree_at vs r.root ≡ formula_value (valuation_of lay vs) i o

  of_made : (nodes : List Term) (r : Rooted) (c : Typecode) (i : ℕ) (o : Option Tree) → Makes nodes r c (λ vs. formula_value (valuation_of lay vs) i o) → IsFormulaMade nodes r i o
  of_made nodes r c i o m = record { more = m.more; extends = m.extends; grown = m.grown; within = m.within; means = m.means }

  blank_place : (os : List (Option ℕ)) (k i : ℕ) → IsBlankAt logic us os k i → get_or os k None ≡ Some (place_in us (blank i))
  blank_place os k i h =
      let place : place_in us (blank i) ≡ h.node = ap (place_in us) (sym h.place.there) ∙ place_back (blank 0) us h.node is.distinct h.place.within in
      h.is ∙ ap (λ (j : ℕ). Some j) (sym place)

  formula_made : (i : ℕ) (s : BoundStep) (o : Option ℕ) (t : Option Tree) → slice_get bound.steps i ≡ Some s → s.tree ≡ t → (t ≡ None → o ≡ Some (place_in us (blank i)))
      → IsReadyFormula db bound.place t → (nodes : List Term) → Grows nodes
      → IsFormulaMade nodes (formula_adder db.rows b.works logic o t nodes) i t
  formula_made i s o None at e there h nodes g = of_made nodes (there_or o (Free logic) nodes) logic i None (unknown_made nodes (blank i) logic o (is_blank s at e) refl (there refl) g)
  formula_made i s o (Some t) at e there h nodes g = of_made nodes (added db.rows b.works [] t nodes) (code_of t) i (Some t) (tree_made t ok h.1 nodes g)
    where
      ok : (x : Open) → Occurs x t → built.OpenOk db bound [] once x
      ok (work c n) o = in_formula i s t at e o
      ok (fresh c n) o = no_fresh_leaf c n t h.2 o

  -- a formula of each step
  abbrev IsFormulaAt : List Term → List Id → ℕ → ℕ → BoundStep → Type 0
  IsFormulaAt nodes roots i j s = (formula_node roots i < length nodes) × ((vs : List Tree) → Fit nodes vs → tree_at vs (formula_node roots i) ≡ formula_value (valuation_of lay vs) j s.tree)

  record AreFormulasMade (nodes : List Term) (r : Listed) (k : ℕ) (ss : List BoundStep) : Type 0 where
    more : List Term
    extends : r.nodes ≡ nodes ++ more
    grown : Grows r.nodes
    count : length r.roots ≡ length ss
    each : (i : ℕ) (s : BoundStep) → slice_get ss i ≡ Some s → IsFormulaAt r.nodes r.roots i (k + i) s

  each_then : (k : ℕ) (t : BoundStep) (ss : List BoundStep) (nodes more after : List Term) (root : ℕ) (roots : List Id) → after ≡ nodes ++ more → root < length nodes → ((vs : List Tree)
      → Fit nodes vs → tree_at vs root ≡ formula_value (valuation_of lay vs) k t.tree)
      → ((i : ℕ) (s : BoundStep) → slice_get ss i ≡ Some s → IsFormulaAt after roots i (k + 1 + i) s) → (i : ℕ) (s : BoundStep) → slice_get (t ∷ ss) i ≡ Some s
      → IsFormulaAt after (id_of root ∷ roots) i (k + i) s
  each_then k t ss nodes more after root roots e within means rest zero s at =
      let same : t ≡ s = cc in
      let number : k ≡ k + 0 = omega arith in (
        within_front db.rows bound.place base nodes more after root e within,
        λ vs f. means vs (fit_back db.rows bound.place base nodes more after vs e f) ∙ ap (λ (j : ℕ). formula_value (valuation_of lay vs) j t.tree) number
            ∙ ap (λ (x : BoundStep). formula_value (valuation_of lay vs) (k + 0) x.tree) same,
      )
  each_then k t ss nodes more after root roots e within means rest (suc i) s at =
      let told = rest i s at in
      let number : k + 1 + i ≡ k + suc i = omega arith in
      (told.0, λ vs f. told.1 vs f ∙ ap (λ (j : ℕ). formula_value (valuation_of lay vs) j s.tree) number)

  made_then : (nodes : List Term) (one : Rooted) (rest : Listed) (k : ℕ) (t : BoundStep) (ss : List BoundStep) → IsFormulaMade nodes one k t.tree → AreFormulasMade one.nodes rest (k + 1) ss
      → AreFormulasMade nodes (first_then one rest) k (t ∷ ss)
  made_then nodes one rest k t ss h g = record {
    more = h.more ++ g.more;
    extends = g.extends ∙ ap (λ (ns : List Term). ns ++ g.more) h.extends ∙ append_assoc nodes h.more g.more;
    grown = g.grown;
    count = (let c = g.count in omega (arith, c));
    each = each_then k t ss one.nodes g.more rest.nodes one.root rest.roots g.extends h.within h.means g.each;
  }

  formulas_made : (k : ℕ) (ss : List BoundStep) (os : List (Option ℕ)) → ((i : ℕ) (s : BoundStep) → slice_get ss i ≡ Some s → slice_get bound.steps (k + i) ≡ Some s)
      → AllByRecursion (λ (s : BoundStep). IsReadyFormula db bound.place s.tree) ss
      → length os ≡ length ss → ((i : ℕ) (s : BoundStep) → slice_get ss i ≡ Some s → s.tree ≡ None → IsBlankAt logic us os i (k + i)) → (nodes : List Term) → Grows nodes
      → AreFormulasMade nodes (run (formula_adders db.rows b.works logic os ss) nodes) k ss
  formulas_made k [] [] at h count blanks nodes g = record {
    more = [];
    extends = sym
        (append-nil nodes);
    grown = g;
    count = refl;
    each = λ i s e. let impossible : ◌≡◌ {A = Option BoundStep} None (Some s) = e in absurd (cc);
  }
  formulas_made k [] (o ∷ os) at h count blanks nodes g = absurd (omega (arith, count))
  formulas_made k (t ∷ ss) [] at h count blanks nodes g = absurd (omega (arith, count))
  formulas_made k (t ∷ ss) (o ∷ os) at h count blanks nodes g =
      let number : k + 0 ≡ k = omega arith in
      let one = formula_made k t o t.tree (subst (λ (j : ℕ). slice_get bound.steps j ≡ Some t) number (at 0 t refl)) refl
      (λ none. subst (λ (j : ℕ). o ≡ Some (place_in us (blank j))) number (blank_place (o ∷ os) 0 (k + 0) (blanks 0 t refl none))) h.0 nodes g in
      made_then nodes (formula_adder db.rows b.works logic o t.tree nodes) (run (formula_adders db.rows b.works logic os ss) (formula_adder db.rows b.works logic o t.tree nodes).nodes) k t ss one
      (formulas_made (k + 1) ss os
      (λ i s e. let further : k + suc i ≡ k + 1 + i = omega arith in subst (λ (j : ℕ). slice_get bound.steps j ≡ Some s) further (at (suc i) s e)) h.1 (omega (arith, count))
      (λ i s e none. let further : k + suc i ≡ k + 1 + i = omega arith in later_blank (k + suc i) (k + 1 + i) i o os further (blanks (suc i) s e none))
      (formula_adder db.rows b.works logic o t.tree nodes).nodes one.grown)
    where
      later_blank : (j j' i : ℕ) (o : Option ℕ) (os : List (Option ℕ)) → j ≡ j' → IsBlankAt logic us (o ∷ os) (suc i) j → IsBlankAt logic us os i j'
      later_blank j j' i o os e h = subst (IsBlankAt logic us os i) e (record { node = h.node; is = h.is; place = h.place })

  -- ---- how many nodes there are

  var_adds : (s : Sym) (c : Typecode) → built.FormulaOk db bound [] once (tree.Var s c) → (ns : List Term) → length (there_or (variable_at [] s c) (Var s c) ns).nodes ≡ length ns + 1
  var_adds s c ok ns = length_push ns (Var s c)

  work_adds : (c : Typecode) (n : ℕ) → built.FormulaOk db bound [] once (tree.Work c n) → (ns : List Term) → length (there_or (work_at b.works c n) (Free c) ns).nodes ≡ length ns + 0
  work_adds c n ok ns =
      let there = work_is c n (ok (work c n) (built.leaf_occurs_work db bound [] once c n)) in
      ap (λ (o : Option ℕ). length (there_or o (Free c) ns).nodes) there ∙ omega arith

  formula_adds : (t : Tree) → built.FormulaOk db bound [] once t → (ns : List Term) → length (added db.rows b.works [] t ns).nodes ≡ length ns + new_nodes 1 0 t
  formula_adds = tree_adds db.rows b.works [] 1 0 (built.FormulaOk db bound [] once)
      (λ l c ts h. built.each_ok db bound [] once ts (λ x o. h x (subst (λ (xs : List Open). Contains xs x) (sym (open_leaves-Node l c ts)) o)))
      var_adds work_adds

  adder_adds : (i : ℕ) (s : BoundStep) (o : Option ℕ) (t : Option Tree) → slice_get bound.steps i ≡ Some s → s.tree ≡ t → (t ≡ None → o ≡ Some (place_in us (blank i)))
      → IsReadyFormula db bound.place t → (ns : List Term) → length (formula_adder db.rows b.works logic o t ns).nodes ≡ length ns + option_map_or (new_nodes 1 0) t 0
  adder_adds i s o None at e there h ns = ap (λ (p : Option ℕ). length (there_or p (Free logic) ns).nodes) (there refl) ∙ omega arith
  adder_adds i s o (Some t) at e there h ns = formula_adds t ok ns
    where
      ok : (x : Open) → Occurs x t → built.OpenOk db bound [] once x
      ok (work c n) o = in_formula i s t at e o
      ok (fresh c n) o = no_fresh_leaf c n t h.2 o

  adders_add : (k : ℕ) (ss : List BoundStep) (os : List (Option ℕ)) → ((i : ℕ) (s : BoundStep) → slice_get ss i ≡ Some s → slice_get bound.steps (k + i) ≡ Some s)
      → AllByRecursion (λ (s : BoundStep). IsReadyFormula db bound.place s.tree) ss
      → length os ≡ length ss → ((i : ℕ) (s : BoundStep) → slice_get ss i ≡ Some s → s.tree ≡ None → IsBlankAt logic us os i (k + i)) → (ns : List Term)
      → length (run (formula_adders db.rows b.works logic os ss) ns).nodes ≡ length ns + sum (map tree_size ss)
  adders_add k [] [] at h count blanks ns = omega arith
  adders_add k [] (o ∷ os) at h count blanks ns = absurd (omega (arith, count))
  adders_add k (t ∷ ss) [] at h count blanks ns = absurd (omega (arith, count))
  adders_add k (t ∷ ss) (o ∷ os) at h count blanks ns =
      let number : k + 0 ≡ k = omega arith in
      let one = adder_adds k t o t.tree (subst (λ (j : ℕ). slice_get bound.steps j ≡ Some t) number (at 0 t refl)) refl
      (λ none. subst (λ (j : ℕ). o ≡ Some (place_in us (blank j))) number (blank_place (o ∷ os) 0 (k + 0) (blanks 0 t refl none))) h.0 ns in
      let rest = adders_add (k + 1) ss os
      (λ i s e. let further : k + suc i ≡ k + 1 + i = omega arith in subst (λ (j : ℕ). slice_get bound.steps j ≡ Some s) further (at (suc i) s e)) h.1 (omega (arith, count))
      (λ i s e none. let further : k + suc i ≡ k + 1 + i = omega arith in further_blank (k + suc i) (k + 1 + i) i o os further (blanks (suc i) s e none))
      (formula_adder db.rows b.works logic o t.tree ns).nodes in
      let total = sum_cons (tree_size t) (map tree_size ss) in
      omega (arith, one, rest, total)
    where
      further_blank : (j j' i : ℕ) (o : Option ℕ) (os : List (Option ℕ)) → j ≡ j' → IsBlankAt logic us (o ∷ os) (suc i) j → IsBlankAt logic us os i j'
      further_blank j j' i o os e h = subst (IsBlankAt logic us os i) e (record { node = h.node; is = h.is; place = h.place })

  -- ---- all together

  module _ (os : List (Option ℕ)) (count : length os ≡ length bound.steps) (blanks : (i : ℕ) (s : BoundStep) → slice_get bound.steps i ≡ Some s → s.tree ≡ None → IsBlankAt logic us os i (0 + i))
      (unknowns_many : length b.nodes ≤ sum (map unknowns_size bound.steps)) where
    abbrev made_all : Listed
    made_all = run (formula_adders db.rows b.works logic os bound.steps) b.nodes

    all_made : AreFormulasMade b.nodes made_all 0 bound.steps
    all_made = formulas_made 0 bound.steps os (λ i s e. let number : i ≡ 0 + i = omega arith in subst (λ (j : ℕ). slice_get bound.steps j ≡ Some s) number e) ready count blanks b.nodes
        (subst Grows (sym base_is) (built.grown_base db bound [] once))

    chained : IsChained db bound [] [] made_all.nodes [] lay
    chained = record {
      store = built.bare db bound [] once made_all.nodes all_made.grown;
      solved = record { closed = λ i h. agrees_refl [] (term_at made_all.nodes i); solution = start_solution made_all.nodes [] (built.bare db bound [] once made_all.nodes all_made.grown) };
      laid_out = built.laid_out db bound [] once made_all.nodes all_made.grown;
      exact = record { solves = λ vs s. tt; holds = λ vs s all. s };
      among = λ x h. absurd (nothing x h);
      sound = tt;
    }

    few : length made_all.nodes ≤ formulas_size bound.steps
    few =
        let trees = adders_add 0 bound.steps os (λ i s e. let number : i ≡ 0 + i = omega arith in subst (λ (j : ℕ). slice_get bound.steps j ≡ Some s) number e) ready count blanks b.nodes in
        let both = sizes_are bound.steps in
        omega (arith, trees, both, unknowns_many)

    has_formulas : HasFormulas db bound made_all.nodes b.works made_all.roots
    has_formulas = record {
      lay = lay;
      chained = chained;
      works_are = works_are;
      count = all_made.count;
      few = few;
      formulas_are = λ i h.
          let told = all_made.each i (slice_index_or bound.steps i no_step) (slice_get-get_or bound.steps i no_step h) in
          let number : 0 + i ≡ i = omega arith in
          record { within = told.0; is_formula = λ vs f. told.1 vs f ∙ ap (λ (j : ℕ). formula_value (valuation_of lay vs) j (slice_index_or bound.steps i no_step).tree) number };
    }

module _ (db : Database) (bound : Bound) (ready : IsReadyBound db bound) where
  abbrev begun_steps : StepsListing (logic_code db) [] (unknowns_of (logic_code db) bound.steps) (blank_nodes (logic_code db) nothing_begun bound.steps) 0 bound.steps
  begun_steps = steps_listed (logic_code db) 0 bound.steps [] nothing_begun (record { nodes = refl; works = refl; distinct = tt }) (λ j h. absurd (nothing (blank j) h))

  only_steps : (u : Unknown) → Contains begun_steps.listing.list u → Contains (of_steps 0 bound.steps) u
  only_steps u h = elim (begun_steps.listing.only u h) [ inl none ↦ absurd (nothing u none) | inr here ↦ here ]

  first_formulas : HasFormulas db bound (formulas_of db.rows (logic_code db) bound.steps).nodes (unknowns_of (logic_code db) bound.steps).works (formulas_of db.rows (logic_code db) bound.steps).roots
  first_formulas = has_formulas db bound ready begun_steps.listing.list (unknowns_of (logic_code db) bound.steps) begun_steps.listing.is begun_steps.listing.all only_steps
      (blank_nodes (logic_code db) nothing_begun bound.steps) (blanks_count (logic_code db) nothing_begun bound.steps) begun_steps.blanks (let many = unknowns_few
      (logic_code db) bound.steps nothing_begun in omega (arith, many))

  pub formulas_chained : (nodes : List Term) (works : List WorkNode) (formulas : List Id) → AreFormulas db.rows (logic_code db) bound.steps nodes works formulas
      → HasFormulas db bound nodes works formulas
  formulas_chained nodes works formulas h =
      subst (λ (ns : List Term). HasFormulas db bound ns works formulas) (sym h.nodes_are)
      (subst (λ (ws : List WorkNode). HasFormulas db bound (formulas_of db.rows (logic_code db) bound.steps).nodes ws formulas) (sym h.works_are)
      (subst
      (λ (ids : List Id). HasFormulas db bound (formulas_of db.rows (logic_code db) bound.steps).nodes
      (unknowns_of (logic_code db) bound.steps).works ids)
      (sym h.formulas_are) first_formulas))

-- ---- for the code

-- the first level of a chain
module _ (d : Opened) (bound : Bound) (law : BoundIsReady) (logic : Typecode) where
  book_formulas : (db : Database) (sheet : Sheet) (nodes : List Term) (works : List WorkNode) (formulas : List Id) → Binds db sheet bound → logic_code db ≡ logic
      → AreFormulas db.rows logic bound.steps nodes works formulas
      → HasFormulas db bound nodes works formulas
  book_formulas db sheet nodes works formulas binds code h =
      formulas_chained db bound (law db sheet bound binds) nodes works formulas (subst (λ (c : Typecode). AreFormulas db.rows c bound.steps nodes works formulas) (sym code) h)

  first_level : (db : Database) (nodes : List Term) (works : List WorkNode) (formulas : List Id) → HasFormulas db bound nodes works formulas → HaveConstants (constants_in d.rows) nodes
      → IsLevel db d bound works formulas [] nodes []
  first_level db nodes works formulas h constants = record {
    layout = h.lay;
    chained = h.chained;
    formula_nodes = h.formulas_are;
    works_are = h.works_are;
    before = tt;
    each = λ i s o at none. cc;
    kept = λ i p x none e. cc;
    few = (let all = h.few in omega (arith, all));
    constants = constants;
  }

  pub first_front : (rows : List Production) (ss : List BoundStep) (r : Result FormulaNodes Memory) (old new : Store) → rows ≡ d.rows → ss ≡ bound.steps → old.links ≡ []
      → IsSolved old.nodes old.links → IsGrown old new → IsStore new.nodes new.links
      → IfOk r (λ f. AreFormulas rows logic ss new.nodes f.works.items f.formulas.items) → IfOk r (λ f. AreIdsIn (length new.nodes) f.formulas.items)
      → IfOk r (λ f. AreWorksIn (length new.nodes) f.works.items)
      → IfOk r (λ f. HaveConstants (constants_in d.rows) new.nodes) → IfOk r (λ f. IsFront d logic bound f.works.items f.formulas.items [] new.nodes new.links)
  first_front rows ss (Err e) old new same_rows same_steps unbound solved grown store h ids works constants = tt
  first_front rows ss (Ok f) old new same_rows same_steps unbound solved grown store h ids works constants =
      let none : new.links ≡ [] = grown.links ∙ unbound in
      let here : AreFormulas d.rows logic bound.steps new.nodes f.works.items f.formulas.items =
      subst (λ (xs : List BoundStep). AreFormulas d.rows logic xs new.nodes f.works.items f.formulas.items) same_steps (subst (λ
      (xs : List Production). AreFormulas xs logic ss new.nodes f.works.items f.formulas.items) same_rows h) in
      record {
        store = store;
        solved = grown.solved solved;
        works_in = works;
        formulas_in = ids;
        kept_in = tt;
        level = λ kinds text sheet opened binds code.
            let db = database_of kinds text d.rows d.parsed in
            subst (IsLevel db d bound f.works.items f.formulas.items [] new.nodes) (sym none)
            (first_level db new.nodes f.works.items f.formulas.items (book_formulas db sheet new.nodes f.works.items f.formulas.items binds code here) constants);
      }

  pub begun_count : (rows : List Production) (ss : List BoundStep) (r : Result FormulaNodes Memory) → ss ≡ bound.steps → IfOk r (λ f. length f.formulas.items ≡ length ss)
      → IfOk r (λ f. length f.formulas.items ≡ length bound.steps)
  begun_count rows ss (Err e) same h = tt
  begun_count rows ss (Ok f) same h = h ∙ ap length same
