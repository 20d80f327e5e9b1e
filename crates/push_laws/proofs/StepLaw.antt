-- The laws of the proofs of the steps below `qed`.
use Rattle.std.specs.Prelude.{◌≡◌, ◌<◌, ◌==◌, ℕ, zero, suc, Bool, true, false, List, [], ◌∷◌, ◌++◌, length, map, drop, filter, filter_map, flat_map}
use Rattle.std.specs.Prelude.{find, slice_get, slice_index_or, unwrap_or, Contains, is_some, Option, Some, None, option_map, refl}
use Rattle.std.specs.List.{AllByRecursion, list_any, cons_option}
use Rattle.std.proofs.Common.{sym, ap, subst, ◌∙◌, cond, arith, inl, inr}
use Rattle.std.proofs.lemmas.Bool.{or_cases, eqb-true}
use Rattle.std.proofs.lemmas.Slice.Eq.{bytes_eq-Decides}
use Rattle.std.proofs.lemmas.Option.{slice_get_within}
use Rattle.mm_base.specs.declared.symbols.Sym.{Sym}
use Rattle.mm_base.specs.declared.symbols.Pair.{Pair}
use Rattle.mm_base.specs.declared.symbols.Typecode.{Typecode}
use Rattle.mm_base.specs.declared.tree.Tree.{Tree}
use Rattle.mm_base.specs.declared.tree.Tree.TheVariants.{Var}
use Rattle.mm_model.specs.declared.frames.Hyp.{Hyp}
use Rattle.mm_model.specs.declared.rows.Leaf.{Leaf}
use Rattle.mm_model.specs.declared.rows.Leaf.TheVariants as leaf
use Rattle.mm_model.specs.Labels.{is_label}
use Rattle.mm_model.specs.Texts.{text}
use Rattle.mm_model.specs.Typed.{IsTyped}
use Rattle.mm_model.specs.Book.{Database, symbol_of, symbol_name, declared_leaf, float_of}
use Rattle.mm_model.specs.BookFacts.{IsKnownAt}
use Rattle.mm_model.proofs.NameLaws.{symbol_back}
use Rattle.proof_model.specs.declared.theorem.Theorem.{Theorem}
use Rattle.proof_model.specs.Arities.{HasArities}
use Rattle.proof_model.specs.Machine.{is_variable, is_float_of}
use Rattle.sheet_text.specs.declared.sheet.Sheet.{Sheet}
use Rattle.sheet_text.specs.declared.sheet.SheetStep.{SheetStep}
use Rattle.sheet_text.specs.Layout.{steps, step_of_item}
use Rattle.solve_model.specs.declared.bound.BoundStep.{BoundStep}
use Rattle.solve_model.specs.Binding.{place_of, given_hyps, names_of, symbols_from, new_hyp}
use Rattle.solve_model.specs.BindFaults.{begins_with_token}
use Rattle.solve_model.specs.Formulas.{leaf_by, leaf_of, IsTheTree}
use Rattle.solve_model.specs.Bound.{IsBoundStep, HasTree}
use Rattle.solve_model.specs.Solutions.{formula_value, open_value, no_step}
use Rattle.solve_model.specs.Trees.{Open, work, fresh, leaf_tree, open_leaves, variables, replace, Occurs}
use Rattle.solve_laws.specs.Instances.{IsClosedTree}
use Rattle.solve_laws.proofs.ReplaceLaws.{replace-agree, replace-self}
use Rattle.written_model.specs.declared.options.Options.{Options}
use Rattle.written_model.specs.WrittenSteps.{Use, WrittenStep, WrittenItem, comment, step, steps_in, value_of}
use Rattle.written_model.specs.Named.{name_tree, name_leaf}
use Rattle.written_model.specs.Pairs.{clash_of, lack_of}
use Rattle.written_model.specs.Found.{is_ground}
use Rattle.written_model.specs.ProofTrees.{Below, at_qed, listed, is_complete_use, Finished}
use Rattle.written_model.specs.ProofsPush.{Pushes, leaf_symbols, HasFloat, AreApart, StepProofPushes, StepProofHasArities, proof_at}
use Rattle.written_model.specs.Written.{Writing, Writes, frames_of, written_item, written_step, written_sheet, written_theorem, written_pairs, formula_tokens}
use Rattle.push_laws.proofs.Books.{is_book}
use Rattle.push_laws.proofs.Distinct.{needed_pair, needed_is_written, is_active}
use Rattle.push_laws.proofs.Facts.{IsBook}
use Rattle.push_laws.proofs.Lists.{nothing, parted, all_of, get_contains, get_within, filter_contains, zip_get, index_get}
use Rattle.push_laws.proofs.Pairs.{AreDistinct}
use Rattle.push_laws.proofs.Parts.{IsGood}
use Rattle.push_laws.proofs.ReadHyps.{hyp_steps, hyp_begins}
use Rattle.push_laws.proofs.ReadTrees.{IsDeclared}
use Rattle.push_laws.proofs.Replaced.{work_is_read, fresh_is_none}
use Rattle.push_laws.proofs.Runs.{IsProofOf, is_named, pushes_from}
use Rattle.push_laws.proofs.StepProofs.{IsBefore, IsStep, HasUse, below_proved}
use Rattle.push_laws.proofs.TheoremHyps.{all_hyps, are_apart, are_labels, constants_apart, declared_float, hyp_found, HypFound}
use Rattle.push_laws.proofs.Tokens.{symbols_are}
use Rattle.push_laws.proofs.TreeProofs.{tree_symbols}
use Rattle.push_laws.proofs.WrittenSheet.{sheet, written_is, written_hyps, IsHypRead, HypRead, hyps_read, hyps_zip, hyp_no_qed, bounds}

none_in : (xs : List Open) → length xs ≡ 0 → xs ≡ []
none_in [] e = refl
none_in (x ∷ xs) e = let bad : ⊥ = omega (arith, e) in absurd bad

pub ground_closed : (t : Tree) → is_ground t ≡ true → open_leaves t ≡ []
ground_closed t e = none_in (open_leaves t) (eqb-true (length (open_leaves t)) 0 e)

-- a tree without open leaves stays as it is
stays_closed : (q : Open → Tree) (t : Tree) → IsClosedTree t → replace (λ s c. Var s c) q t ≡ t
stays_closed q t closed = replace-agree (λ s c. Var s c) (λ s c. Var s c) q leaf_tree (λ s c. refl) t (λ x o. absurd (closed x o)) ∙ replace-self t

pub steps_written : (db : Database) (items : List WrittenItem) → filter_map step_of_item (map (written_item db) items) ≡ map (written_step db) (steps_in items)
steps_written db [] = refl
steps_written db (comment lines ∷ items) = steps_written db items
steps_written db (step e ∷ items) = ap (λ ts. written_step db e ∷ ts) (steps_written db items)

hyps_written : (db : Database) (xs : List WrittenStep) → filter (λ (t : SheetStep). t.hyp) (map (written_step db) xs) ≡ map (written_step db) (filter (λ (e : WrittenStep). e.hyp) xs)
hyps_written db [] = refl
hyps_written db (x ∷ xs) = go x.hyp (hyps_written db xs)
  where
    go : (b : Bool) → filter (λ (t : SheetStep). t.hyp) (map (written_step db) xs) ≡ map (written_step db) (filter (λ (e : WrittenStep). e.hyp) xs)
        → cond b (written_step db x ∷ filter (λ (t : SheetStep). t.hyp) (map (written_step db) xs)) (filter (λ (t : SheetStep). t.hyp) (map (written_step db) xs))
        ≡ map (written_step db) (cond b (x ∷ filter (λ (e : WrittenStep). e.hyp) xs) (filter (λ (e : WrittenStep). e.hyp) xs))
    go true h = ap (λ ts. written_step db x ∷ ts) h
    go false h = h

map_drop : (db : Database) (n : ℕ) (xs : List WrittenStep) → map (new_hyp db) (drop n (map (written_step db) xs)) ≡ map (λ (e : WrittenStep). new_hyp db (written_step db e)) (drop n xs)
map_drop db zero [] = refl
map_drop db zero (x ∷ xs) = ap (λ hs. new_hyp db (written_step db x) ∷ hs) (map_drop db zero xs)
map_drop db (suc n) [] = refl
map_drop db (suc n) (x ∷ xs) = map_drop db n xs

-- ---- the formula of a given hypothesis

module _ (db : Database) (book : IsBook db) (place : ℕ) where
  record IsSaid (xs : List Leaf) (ss : List Sym) : Type 0 where
    symbols : flat_map leaf_symbols xs ≡ ss
    no_work : (c : Typecode) (n : ℕ) → Contains xs (leaf.Work c n) → ⊥

  const_no_work : (s : Sym) (c : Typecode) (n : ℕ) → leaf.Const s ≡ leaf.Work c n → ⊥
  const_no_work s c n e = cc

  var_no_work : (s : Sym) (d c : Typecode) (n : ℕ) → leaf.Var s d ≡ leaf.Work c n → ⊥
  var_no_work s d c n e = cc

  one_said : (s : Sym) (x : Leaf) (xs : List Leaf) (ss : List Sym) → leaf_symbols x ≡ s ∷ [] → ((c : Typecode) (n : ℕ) → x ≡ leaf.Work c n → ⊥) → IsSaid xs ss → IsSaid (x ∷ xs) (s ∷ ss)
  one_said s x xs ss e f h = record {
    symbols = ap (λ ys. ys ++ flat_map leaf_symbols xs) e ∙ ap (λ ys. s ∷ ys) h.symbols;
    no_work = λ c n m. elim (parted (leaf.Work c n) x xs m) [ inl i ↦ f c n i | inr l ↦ h.no_work c n l ];
  }

  said_by : (s : Sym) (a b : Bool) (o : Option Typecode) (xs : List Leaf) (ss : List Sym)
      → is_some (cond a (Some (leaf.Const s)) (cond b (option_map (λ c. leaf.Var s c) o) None)) ≡ true → IsSaid xs ss
      → IsSaid (cons_option (cond a (Some (leaf.Const s)) (cond b (option_map (λ c. leaf.Var s c) o) None)) xs) (s ∷ ss)
  said_by s true b o xs ss e h = one_said s (leaf.Const s) xs ss refl (const_no_work s) h
  said_by s false true None xs ss e h = absurd cc
  said_by s false true (Some c) xs ss e h = one_said s (leaf.Var s c) xs ss refl (λ d n. var_no_work s c d n) h
  said_by s false false o xs ss e h = absurd cc

  -- the names of known symbols say these symbols
  said : (ss : List Sym) → AllByRecursion (λ (s : Sym). s.0 < length db.symbols) ss
      → AllByRecursion (λ s. is_some (declared_leaf db place s) ≡ true) ss → IsSaid (filter_map (leaf_of db place) (map (symbol_name db) ss)) ss
  said [] a k = record { symbols = refl; no_work = λ c n m. nothing (leaf.Work c n) m }
  said (s ∷ ss) a k =
      let back : leaf_of db place (symbol_name db s) ≡ declared_leaf db place s = ap (leaf_by db place (symbol_name db s)) (symbol_back db.symbols book.facts.symbols s.0 a.0) in
      subst (λ o. IsSaid (cons_option o (filter_map (leaf_of db place) (map (symbol_name db) ss))) (s ∷ ss)) (sym back)
      (said_by s (db.is_constant_at s place) (list_any (λ (v : Sym). v.0 == s.0) (db.active_at place).variables) (float_of s (db.active_at place).hyps)
      (filter_map (leaf_of db place) (map (symbol_name db) ss)) ss k.0 (said ss a.1 k.1))

  -- the tree of the names of a known formula
  record IsGivenTree (p : Sym) (g : List Sym) (t : Tree) : Type 0 where
    formula : g ≡ p ∷ tree_symbols db t
    closed : IsClosedTree t

  given_tree : (p : Sym) (g : List Sym) (t : Tree) → symbol_of db db.provable ≡ Some p → IsKnownAt db place g
      → begins_with_token db.provable (names_of db g) ≡ true → IsTheTree db place (names_of db g) t → IsGivenTree p g t
  given_tree p [] t provable known begins is = absurd cc
  given_tree p (c ∷ rest) t provable known begins is =
      let name : symbol_name db c ≡ db.provable = (bytes_eq-Decides (symbol_name db c) db.provable).0 begins in
      let both : Some c ≡ Some p = sym (symbol_back db.symbols book.facts.symbols c.0 known.symbols.0) ∙ ap (symbol_of db) name ∙ provable in
      let same : c ≡ p = cc in
      let s = said rest known.symbols.1 known.leaves in
      let words : flat_map leaf_symbols (text db.rows t) ≡ rest = ap (flat_map leaf_symbols) is.parses.written ∙ s.symbols in
      record {
        formula = ap (λ x. x ∷ rest) same ∙ ap (λ xs. p ∷ xs) (sym words);
        closed = λ x o. closed_by s x o;
      }
    where
      closed_by : IsSaid (filter_map (leaf_of db place) (map (symbol_name db) rest)) rest → (x : Open) → Occurs x t → ⊥
      closed_by s (work d n) o = s.no_work d n (subst (λ xs. Contains xs (leaf.Work d n)) is.parses.written (work_is_read db book place t is.parses.typed d n o))
      closed_by s (fresh d n) o = fresh_is_none db book place t is.parses.named d n o

module _ (db : Database) (book : IsBook db) (words : List ℕ) (options : Options) (w : Writing) (wr : Writes db words options w) (finished : w.finished ≡ true) where
  abbrev s : Sheet
  s = sheet db book words options w wr

  abbrev ws : Sheet
  ws = written_sheet db options w

  abbrev thm : Theorem
  thm = written_theorem db options w

  abbrev all : List WrittenStep
  all = steps_in w.items

  abbrev H : List WrittenStep
  H = written_hyps db book words options w wr

  theorem_same : w.read.theorem ≡ s.theorem
  theorem_same = sym (ap (λ (x : Sheet). x.theorem) wr.reads.same)

  loc_same : w.read.loc ≡ s.loc
  loc_same = sym (ap (λ (x : Sheet). x.loc) wr.reads.same)

  pub place_same : place_of db ws ≡ place_of db s
  place_same = ap (λ n. place_of db (record ws { theorem = n })) theorem_same ∙ ap (λ l. place_of db (record ws { theorem = s.theorem; loc = l })) loc_same

  pub given_same : given_hyps db ws ≡ given_hyps db s
  given_same = ap (λ n. given_hyps db (record ws { theorem = n })) theorem_same ∙ ap (λ l. given_hyps db (record ws { theorem = s.theorem; loc = l })) loc_same

  pub at_same : thm.at ≡ w.bound.place
  at_same = place_same ∙ sym wr.binds.place

  abbrev hyps : List Hyp
  hyps = all_hyps db book s wr.binds.sound H (hyps_zip db book words options w wr)

  pub hyps_same : thm.hyps ≡ hyps
  hyps_same =
      ap (λ (n : ℕ). (db.active_at n).hyps ++ map (new_hyp db) (drop (length (given_hyps db ws)) (filter (λ (t : SheetStep). t.hyp) (steps ws)))) place_same
      ∙ ap (λ hs. (db.active_at (place_of db s)).hyps ++ map (new_hyp db) (drop (length hs) (filter (λ (t : SheetStep). t.hyp) (steps ws)))) given_same
      ∙ ap (λ ts. (db.active_at (place_of db s)).hyps ++ map (new_hyp db) (drop (length (given_hyps db s)) (filter (λ (t : SheetStep). t.hyp) ts))) (steps_written db w.items)
      ∙ ap (λ ts. (db.active_at (place_of db s)).hyps ++ map (new_hyp db) (drop (length (given_hyps db s)) ts)) (hyps_written db all)
      ∙ ap (λ hs. (db.active_at (place_of db s)).hyps ++ hs) (map_drop db (length (given_hyps db s)) H)

  pub apart : AreApart db thm.hyps
  apart = subst (AreApart db) (sym hyps_same) (are_apart db book s wr.binds.sound H (hyps_zip db book words options w wr))

  pub are_named : (h : Hyp) → Contains thm.hyps h → is_label h.name ≡ true
  are_named h c = are_labels db book s wr.binds.sound H (hyps_zip db book words options w wr) h (subst (λ hs. Contains hs h) hyps_same c)

  constants : (x : Sym) → db.is_constant_at x thm.at ≡ true → is_variable thm x ≡ false
  constants x c = ap (list_any (is_float_of x)) hyps_same
      ∙ constants_apart db book s wr.binds.sound H (hyps_zip db book words options w wr) x (subst (λ (n : ℕ). db.is_constant_at x n ≡ true) place_same c)

  fin : Finished options.dv w.bound.pairs all
  fin = wr.finished.0 finished

  -- the provable typecode is a symbol of the database, since `qed` rests on an assertion
  provable_by : (i : ℕ) → Below all i → (p : Sym) × (symbol_of db db.provable ≡ Some p)
  provable_by k (at_qed i {e} at named) = elim (or_cases e.hyp (is_complete_use options.dv w.bound.pairs e.places e.by) (fin.complete i e at (at_qed i at named))) [
    | inl h ↦ absurd (hyp_no_qed db book words options w wr e (filter_contains (λ (x : WrittenStep). x.hyp) all e (get_contains all i e at) h) named)
    | inr c ↦ by_use e.by refl c
  ]
    where
      by_use : (o : Option Use) → e.by ≡ o → is_complete_use options.dv w.bound.pairs e.places o ≡ true → (p : Sym) × (symbol_of db db.provable ≡ Some p)
      by_use None is c = absurd cc
      by_use (Some u) is c =
          let has = (written_is db book words options w wr i e at).fits u is in
          let b = (book.facts.usable has.label u.assertion has.usable).conclusion.provable.begins in
          (b.0, b.3)
  provable_by k (listed i below at c) = provable_by i below

  good : (i : ℕ) (e : WrittenStep) → slice_get all i ≡ Some e → is_ground e.tree ≡ true → IsGood db book thm apart e.tree
  good i e at ground =
      let is = written_is db book words options w wr i e at in
      record {
        typed = subst (λ (n : ℕ). IsTyped db.rows n e.tree) (sym at_same) is.sound.typed;
        closed = ground_closed e.tree ground;
        floats = λ x c h. subst (λ hs. HasFloat hs x c) (sym hyps_same)
            (declared_float db book s wr.binds.sound H (hyps_zip db book words options w wr) x c (subst (λ (n : ℕ). IsDeclared db n x c) wr.binds.place (is.sound.vars x c h)));
        named = λ x c h. (is.sound.vars x c h).named;
      }

  module _ (p : Sym) (provable : symbol_of db db.provable ≡ Some p) where
    pub formula_is : (i : ℕ) (e : WrittenStep) → slice_get all i ≡ Some e → is_ground e.tree ≡ true → symbols_from db (formula_tokens db e.tree) ≡ p ∷ tree_symbols db e.tree
    formula_is i e at ground = let g = good i e at ground in symbols_are db book thm.at p provable e.tree g.typed g.closed g.named

    by_tree : (e : WrittenStep) (h : Hyp) (x : SheetStep) (read : IsHypRead db book words options w wr e x) (b : BoundStep) (o : Option Tree)
        → b.tree ≡ o → slice_get w.bound.steps read.place ≡ Some b
        → HasTree db w.bound.place (names_of db h.formula) o → IsKnownAt db w.bound.place h.formula
        → begins_with_token db.provable (names_of db h.formula) ≡ true → h.formula ≡ p ∷ tree_symbols db e.tree
    by_tree e h x read b None is at none known begins = absurd (let bad : false ≡ true = ap (begins_with_token db.provable) (sym none) ∙ begins in cc)
    by_tree e h x read b (Some t) is at the known begins =
        let g = given_tree db book w.bound.place p h.formula t provable known begins the in
        let tree : (slice_index_or w.bound.steps read.place no_step).tree ≡ Some t = ap (λ (y : BoundStep). y.tree) (index_get w.bound.steps read.place no_step b at) ∙ is in
        let same : e.tree ≡ t =
        read.tree ∙ ap (λ o. name_tree w.names (formula_value w.value read.place o)) tree
        ∙ ap (name_tree w.names) (stays_closed (open_value w.value) t g.closed) ∙ stays_closed (name_leaf w.names) t g.closed in
        g.formula ∙ ap (λ y. p ∷ tree_symbols db y) (sym same)

    -- the formula of a given hypothesis is that of its step
    given_formula : (e : WrittenStep) (t : SheetStep) (m : ℕ) (h : Hyp) → Contains (db.active_at (place_of db s)).hyps h
        → slice_get (hyp_steps db book s wr.binds.sound) m ≡ Some t → slice_get H m ≡ Some e
        → t.formula ≡ names_of db h.formula → h.formula ≡ p ∷ tree_symbols db e.tree
    given_formula e t m h active stands at is =
        let r = zip_get (HypRead db book words options w wr) H (hyp_steps db book s wr.binds.sound) m e (hyps_read db book words options w wr) at in
        let both : Some r.0 ≡ Some t = sym r.1 ∙ stands in
        let same : r.0 ≡ t = cc in
        let x = r.2.0 in
        let read = r.2.1 in
        let tokens : x.formula ≡ names_of db h.formula = ap (λ (y : SheetStep). y.formula) r.2.2 ∙ ap (λ (y : SheetStep). y.formula) same ∙ is in
        let b = zip_get (IsBoundStep db w.bound.place) (steps w.read) w.bound.steps read.place x (bounds db book words options w wr) read.stands in
        let known =
        subst (λ (n : ℕ). IsKnownAt db n h.formula) (sym wr.binds.place)
        (all_of (λ (y : Hyp). IsKnownAt db (place_of db s) y.formula) (db.active_at (place_of db s)).hyps h
        (book.hyps_apart (place_of db s)).known active) in
        let begins : begins_with_token db.provable (names_of db h.formula) ≡ true = subst (λ f. begins_with_token db.provable f ≡ true) is (hyp_begins db book s wr.binds.sound m t stands) in
        by_tree e h x read b.0 b.0.tree refl b.1 (subst (λ f. HasTree db w.bound.place f b.0.tree) tokens b.2.tree) known begins

    found_formula : (i : ℕ) (e : WrittenStep) → slice_get all i ≡ Some e → is_ground e.tree ≡ true
        → (f : HypFound db book s wr.binds.sound H (hyps_zip db book words options w wr) e) → f.hyp.formula ≡ p ∷ tree_symbols db e.tree
    found_formula i e at ground f = elim f.source [
      | inl new ↦ ap (λ (h : Hyp). h.formula) new ∙ formula_is i e at ground
      | inr given ↦ given_formula e given.0 given.1 f.hyp given.2 given.3 given.4 given.5
    ]

    is_step : (i : ℕ) (e : WrittenStep) → slice_get all i ≡ Some e → IsStep db book thm apart p all i e
    is_step i e at =
        let is = written_is db book words options w wr i e at in
        record {
          earlier = is.earlier;
          good = good i e at;
          hyp = λ h ground.
              let f = hyp_found db book s wr.binds.sound H (hyps_zip db book words options w wr) e (filter_contains (λ (x : WrittenStep). x.hyp) all e (get_contains all i e at) h) in
              record {
                no_use = is.no_use h;
                hyp = f.hyp;
                stands = ap (find (is_named (unwrap_or e.reference []))) hyps_same ∙ f.stands;
                formula = found_formula i e at ground f;
                plain = f.plain;
              };
          fits = λ u by'. subst (λ (n : ℕ). HasUse all db n e u) (sym at_same) (is.fits u by');
        }

    distinct : (i : ℕ) (e : WrittenStep) (u : Use) → slice_get all i ≡ Some e → e.by ≡ Some u → clash_of u ≡ None → lack_of options.dv w.bound.pairs u ≡ None
        → (q : Pair) → Contains u.assertion.frame.pairs q → (x y : Sym) → Contains (variables (value_of u q.a)) x → Contains (variables (value_of u q.b)) y
        → x.0 < length db.symbols → y.0 < length db.symbols → AreDistinct thm x y
    distinct i e u at by' clash lack q c x y in_one in_other l m =
        let needed = needed_pair u q x y c in_one in_other clash in
        let written = needed_is_written options.dv w.bound.pairs all i e u _ at by' lack needed.1 in
        record { differ = needed.0; active = is_active db book.facts.symbols (written_pairs db options w) x y l m written }

    -- the proof of a step below `qed`
    pub step_proof_is : (i : ℕ) (e : WrittenStep) → Below all i → slice_get all i ≡ Some e → IsProofOf (frames_of db) thm (proof_at db options w i) (p ∷ tree_symbols db e.tree)
    step_proof_is i e below at = below_proved db book thm apart constants p provable options.dv w.bound.pairs all fin is_step distinct i e below at

  pub step_at : (i : ℕ) → Below all i → (e : WrittenStep) × (slice_get all i ≡ Some e)
  step_at k (at_qed i {e} at named) = (e, at)
  step_at k (listed i {e} below at c) =
      let before = all_of (IsBefore i) e.places _ (written_is db book words options w wr i e at).earlier c in
      let within = slice_get_within all i e at in
      get_within all k (omega (arith, before, within))

  pub pushes : (i : ℕ) (e : WrittenStep) → Below all i → slice_get all i ≡ Some e → Pushes (frames_of db) thm (proof_at db options w i) (symbols_from db (formula_tokens db e.tree))
  pushes i e below at =
      let p = provable_by i below in
      let proof = step_proof_is p.0 p.1 i e below at in
      subst (Pushes (frames_of db) thm (proof_at db options w i)) (sym (formula_is p.0 p.1 i e at (fin.no_work i e at below)))
      (pushes_from (frames_of db) thm (proof_at db options w i) (p.0 ∷ tree_symbols db e.tree) proof.plain proof.runs)

  pub arities : (i : ℕ) → Below all i → HasArities (frames_of db) thm (proof_at db options w i)
  arities i below =
      let p = provable_by i below in
      let e = step_at i below in
      (step_proof_is p.0 p.1 i e.0 below e.1).arities

pub step_proof_pushes : (db : Database) (text : List ℕ) (options : Options) (w : Writing) → StepProofPushes db text options w
step_proof_pushes db text options w i e opened writes finished below at =
    let book = is_book options.kinds opened.text db opened.is_database opened.sound in
    pushes db book text options w writes finished i e below at

pub step_proof_has_arities : (db : Database) (text : List ℕ) (options : Options) (w : Writing) → StepProofHasArities db text options w
step_proof_has_arities db text options w i opened writes finished below =
    let book = is_book options.kinds opened.text db opened.is_database opened.sound in
    arities db book text options w writes finished i below
