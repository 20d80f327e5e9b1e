-- A chained store that grows.
use Rattle.std.specs.Prelude.{◌≡◌, ℕ, ◌<◌, ◌≤◌, List, [], ◌∷◌, ◌++◌, length, take, refl}
use Rattle.std.specs.List.{AllByRecursion}
use Rattle.std.proofs.Common.{zero, suc, sym, ap, subst, ◌∙◌, arith, inl, inr}
use Rattle.std.proofs.lemmas.Bool.{cases_lt}
use Rattle.std.proofs.lemmas.List.{length-append}
use Rattle.mm_base.specs.declared.symbols.Label.{Label}
use Rattle.mm_base.specs.declared.symbols.Typecode.{Typecode}
use Rattle.mm_base.specs.declared.tree.Tree.{Tree}
use Rattle.mm_base.specs.declared.tree.Tree.TheVariants as tree
use Rattle.mm_model.specs.Book.{Database}
use Rattle.solve_model.specs.declared.bound.Bound.{Bound}
use Rattle.solve_model.specs.Solutions.{Unknown, IsUnknown, Asked}
use Rattle.term_model.specs.declared.shape.Id.{Id}
use Rattle.term_model.specs.Terms.{Term, Var, Free, Node, term_at, children_of}
use Rattle.term_model.specs.Links.{Link, InOrder}
use Rattle.term_model.specs.Store.{tree_at, trees_at, Fits, Respects, Solution, IsStore}
use Rattle.chain_laws.specs.Layout.{Layout, HasNode, IsLaidOut, IsTypedTerm, valuation_of, IsSoundAsked, IsExact}
use Rattle.chain_laws.proofs.Agreement.{solve_same}
use Rattle.chain_laws.proofs.Grown.{term_front, codes_front}

-- ---- a solution of the longer store is one of the shorter

tree_front : (n i : ℕ) (trees : List Tree) → i < n → tree_at (take n trees) i ≡ tree_at trees i
tree_front zero i trees h = absurd (omega (arith, h))
tree_front (suc n) i [] h = refl
tree_front (suc n) zero (t ∷ trees) h = refl
tree_front (suc n) (suc i) (t ∷ trees) h = tree_front n i trees (omega (arith, h))

trees_front : (n : ℕ) (trees : List Tree) (kids : List Id) → AllByRecursion (λ (id : Id). id.0 < n) kids → trees_at (take n trees) kids ≡ trees_at trees kids
trees_front n trees [] h = refl
trees_front n trees (x ∷ xs) h =
    let here = tree_front n x.0 trees h.0 in
    let rest = trees_front n trees xs h.1 in
    cc

fits_front : (n : ℕ) (trees : List Tree) (t : Tree) (e : Term) → AllByRecursion (λ (id : Id). id.0 < n) (children_of e) → Fits trees t e → Fits (take n trees) t e
fits_front n trees t (Var s c) h f = f
fits_front n trees t (Free c) h f = f
fits_front n trees t (Node l c k kids) h f = f ∙ ap (λ ts. tree.Node l c ts) (sym (trees_front n trees kids h))

respects_front : (n : ℕ) (trees : List Tree) (links : List Link) → InOrder n links → Respects trees links → Respects (take n trees) links
respects_front n trees [] o r = tt
respects_front n trees (l ∷ links) o r = (tree_front n l.from trees o.0 ∙ r.0 ∙ sym (tree_front n l.to trees o.1), respects_front n trees links o.4 r.1)

respects_back : (n : ℕ) (trees : List Tree) (links : List Link) → InOrder n links → Respects (take n trees) links → Respects trees links
respects_back n trees [] o r = tt
respects_back n trees (l ∷ links) o r = (sym (tree_front n l.from trees o.0) ∙ r.0 ∙ tree_front n l.to trees o.1, respects_back n trees links o.4 r.1)

length_take : (n : ℕ) (xs : List Tree) → n ≤ length xs → length (take n xs) ≡ n
length_take zero xs h = refl
length_take (suc n) [] h = absurd (omega (arith, h))
length_take (suc n) (x ∷ xs) h = let rest = length_take n xs (omega (arith, h)) in omega (arith, rest)

wider : (n m : ℕ) (xs : List Id) → n ≤ m → AllByRecursion (λ (id : Id). id.0 < n) xs → AllByRecursion (λ (id : Id). id.0 < m) xs
wider n m [] h a = tt
wider n m (x ∷ xs) h a = (omega (arith, a.0, h), wider n m xs h a.1)

module _ (nodes more : List Term) (links : List Link) (store : IsStore nodes links) where
  abbrev grown : List Term
  grown = nodes ++ more

  pub solution_front : (trees : List Tree) (ls : List Link) → InOrder (length nodes) ls → Solution grown ls trees → Solution nodes ls (take (length nodes) trees)
  solution_front trees ls order s =
      let n = length nodes in
      let long : n ≤ length trees = omega (arith, s.count, length-append nodes more) in
      record {
        count = length_take n trees long;
        nodes_fit = λ i h.
            let inside : i < length grown = omega (arith, h, length-append nodes more) in
            let kids = wider i n (children_of (term_at nodes i)) (omega (arith, h)) (store.children i h) in
            let told : Fits trees (tree_at trees i) (term_at nodes i) = subst (Fits trees (tree_at trees i)) (term_front nodes more i h) (s.nodes_fit i inside) in
            subst (λ (t : Tree). Fits (take n trees) t (term_at nodes i)) (sym (tree_front n i trees h)) (fits_front n trees (tree_at trees i) (term_at nodes i) kids told);
        links_fit = respects_front n trees ls order s.links_fit;
      }

  -- what solves is the same in the longer store, where the unknowns keep their nodes
  module _ (bound : Bound) (accepted : List Asked) (lay lay' : Layout)
      (within : (u : Unknown) → IsUnknown bound accepted u → lay.node_of u < length nodes)
      (same : (u : Unknown) → IsUnknown bound accepted u → lay'.node_of u ≡ lay.node_of u)
      (sound : AllByRecursion (IsSoundAsked bound) accepted) where
    value_same : (trees : List Tree) (u : Unknown) → IsUnknown bound accepted u → valuation_of lay (take (length nodes) trees) u ≡ valuation_of lay' trees u
    value_same trees u on = tree_front (length nodes) (lay.node_of u) trees (within u on) ∙ ap (tree_at trees) (sym (same u on))

    pub exact_grows : IsExact bound nodes links lay accepted → IsExact bound grown links lay' accepted
    exact_grows e = record {
      solves = λ trees s.
          solve_same bound accepted (valuation_of lay (take (length nodes) trees)) (valuation_of lay' trees) (value_same trees) accepted (λ x h. h) sound
          (e.solves (take (length nodes) trees) (solution_front trees links store.in_order s));
      holds = λ trees s all.
          let front = take (length nodes) trees in
          let back = solve_same bound accepted (valuation_of lay' trees) (valuation_of lay front) (λ u on. sym (value_same trees u on)) accepted (λ x h. h) sound all in
          let kept = e.holds front (solution_front trees [] tt s) back in
          record { count = s.count; nodes_fit = s.nodes_fit; links_fit = respects_back (length nodes) trees links store.in_order kept.links_fit };
    }

-- ---- terms that are added to a layout

module _ (db : Database) (place : ℕ) (On : Unknown → Type 0) (nodes more : List Term) (lay : Layout) where
  typed_grows : (l : Label) (c : Typecode) (kids : List Id) → AllByRecursion (λ (id : Id). id.0 < length nodes) kids
      → IsTypedTerm db.rows place nodes l c kids → IsTypedTerm db.rows place (nodes ++ more) l c kids
  typed_grows l c kids below h = record { row = h.row; is_row = h.is_row; before_place = h.before_place; gives = h.gives; slots = codes_front nodes more kids below ∙ h.slots }

  node_grows : (u : Unknown) → HasNode db nodes lay u → HasNode db (nodes ++ more) lay u
  node_grows u h = record { within = omega (arith, h.within, length-append nodes more); free = term_front nodes more (lay.node_of u) h.within ∙ h.free; own = h.own }

  -- none of them free, all of them typed
  pub laid_out_grows : IsLaidOut db place On nodes lay → ((i : ℕ) (c : Typecode) → length nodes ≤ i → i < length (nodes ++ more) → term_at (nodes ++ more) i ≡ Free c → ⊥)
      → ((i : ℕ) (l : Label) (c : Typecode) (k : ℕ) (kids : List Id) → i < length (nodes ++ more) → term_at (nodes ++ more) i ≡ Node l c k kids → IsTypedTerm db.rows place (nodes ++ more) l c kids)
      → IsLaidOut db place On (nodes ++ more) lay
  laid_out_grows h plain typed = record {
    unknowns = λ u on. node_grows u (h.unknowns u on);
    free = λ i c below is. elim (cases_lt i (length nodes)) [
      | inl old ↦ h.free i c old (sym (term_front nodes more i old) ∙ is)
      | inr new ↦ absurd (plain i c new below is)
    ];
    typed = typed;
    works = h.works;
    all_works = h.all_works;
  }
