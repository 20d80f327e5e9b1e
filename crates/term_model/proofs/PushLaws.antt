-- One more node keeps closed bindings and a solution.
use Rattle.std.proofs.Common.{◌≡◌, ℕ, ◌+◌, ◌<◌, List, [], ◌∷◌, ◌++◌, length, refl, ap, sym, ◌∙◌, inl, inr, arith}
use Rattle.std.specs.List.{AllByRecursion}
use Rattle.std.proofs.lemmas.Bool.{cases_eq}
use Rattle.std.proofs.lemmas.List.{length_push, get_or_push, get_or_append_left}
use Rattle.mm_base.specs.declared.tree.Tree.{Tree}
use Rattle.mm_base.specs.declared.tree.Tree.TheVariants as tree
use Rattle.term_model.specs.declared.shape.Id.{Id}
use Rattle.term_model.specs.Terms.{Term, Var, Free, Node, term_at, children_of, HasChildrenBelow}
use Rattle.term_model.specs.Links.{Link, end_of, InOrder}
use Rattle.term_model.specs.Store.{tree_at, trees_at, Fits, Respects, Solution, IsClosed, IsSolved, IsStore}
use Rattle.term_model.proofs.TreeLaws.{code_of-Fresh}
use Rattle.term_model.proofs.LinkLaws.{end_below, end_of_unbound, unbound_past, are_below}
use Rattle.term_model.proofs.ClosureLaws.{agrees_refl}
use Rattle.term_model.proofs.CycleLaws.{children_within}

module _ (trees : List Tree) (t : Tree) where
  tree_old : (i : ℕ) → i < length trees → tree_at (trees ++ t ∷ []) i ≡ tree_at trees i
  tree_old i h = get_or_append_left trees (t ∷ []) _ i h

  trees_old : (kids : List Id) → AllByRecursion (λ (id : Id). id.0 < length trees) kids → trees_at (trees ++ t ∷ []) kids ≡ trees_at trees kids
  trees_old [] a = refl
  trees_old (id ∷ kids) a = rw (tree_old id.0 a.0, trees_old kids a.1) refl

  fits_old : (u : Tree) (e : Term) → HasChildrenBelow (length trees) e → Fits trees u e → Fits (trees ++ t ∷ []) u e
  fits_old u (Var s c) a f = f
  fits_old u (Free c) a f = f
  fits_old u (Node l c k kids) a f = rw (trees_old kids a) f

  respects_old : (links : List Link) → InOrder (length trees) links → Respects trees links → Respects (trees ++ t ∷ []) links
  respects_old [] o r = tt
  respects_old (l ∷ links) o r = (rw (tree_old l.from o.0, tree_old l.to o.1) r.0, respects_old links o.4 r.1)

-- a tree for one more node
new_tree : List Tree → Term → Tree
new_tree trees (Var s c) = tree.Var s c
new_tree trees (Free c) = tree.Fresh c 0
new_tree trees (Node l c k kids) = tree.Node l c (trees_at trees kids)

new_fits : (trees : List Tree) (e : Term) → Fits trees (new_tree trees e) e
unfolding new_tree
new_fits trees (Var s c) = refl
new_fits trees (Free c) = code_of-Fresh c 0
new_fits trees (Node l c k kids) = refl

module _ (nodes : List Term) (links : List Link) (e : Term) (store : IsStore nodes links) (kids : HasChildrenBelow (length nodes) e) where
  solution_pushed : (trees : List Tree) → Solution nodes links trees → Solution (nodes ++ e ∷ []) links (trees ++ new_tree trees e ∷ [])
  solution_pushed trees s =
      let t = new_tree trees e in
      let n : length trees ≡ length nodes = s.count in
      let below : HasChildrenBelow (length trees) e = rw n kids in
      record {
        count = length_push trees t ∙ ap (λ (k : ℕ). k + 1) n ∙ sym (length_push nodes e);
        nodes_fit = λ i h. elim (cases_eq i (length nodes)) [
          | inl at ↦ rw (get_or_push nodes e _ i (sym at), get_or_push trees t _ i (n ∙ sym at)) (fits_old trees t t e below (new_fits trees e))
          | inr past ↦
              let old : i < length nodes = omega (arith, length_push nodes e) in
              let old' : i < length trees = omega (arith, n) in
              let inside : HasChildrenBelow (length trees) (term_at nodes i) = children_within i (length trees) (children_of (term_at nodes i)) (omega (arith, old')) (store.children i old) in
              rw (get_or_append_left nodes (e ∷ []) _ i old, tree_old trees t i old') (fits_old trees t (tree_at trees i) (term_at nodes i) inside (s.nodes_fit i old))
        ];
        links_fit = respects_old trees t links (rw n store.in_order) s.links_fit;
      }

  closed_pushed : IsClosed nodes links → IsClosed (nodes ++ e ∷ []) links
  closed_pushed c i h = elim (cases_eq i (length nodes)) [
    | inl at ↦
        let free : end_of links i ≡ i = end_of_unbound links i (unbound_past (length nodes) links i (are_below (length nodes) links store.in_order) (omega (arith, at))) in
        rw free (agrees_refl links (term_at (nodes ++ e ∷ []) i))
    | inr past ↦
        let old : i < length nodes = omega (arith, length_push nodes e) in
        rw (get_or_append_left nodes (e ∷ []) _ i old, get_or_append_left nodes (e ∷ []) _ (end_of links i) (end_below (length nodes) links i store.in_order old)) (c i old)
  ]

  pub solved_pushed : IsSolved nodes links → IsSolved (nodes ++ e ∷ []) links
  solved_pushed s = record { closed = closed_pushed s.closed; solution = (s.solution.0 ++ new_tree s.solution.0 e ∷ [], solution_pushed s.solution.0 s.solution.1) }

-- a store of no nodes
pub solved_empty : IsSolved [] []
solved_empty = record {
  closed = λ i h. absurd (omega arith);
  solution = ([], record { count = refl; nodes_fit = λ i h. absurd (omega arith); links_fit = tt });
}
