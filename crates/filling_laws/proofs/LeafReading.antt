-- The fresh leaves of the tree of a node have numbers of nodes.
use Rattle.std.specs.Prelude.{◌≡◌, ℕ, ◌<◌, List, [], ◌∷◌, length, map, Contains, Option, Some, None}
use Rattle.std.specs.List.{AllByRecursion}
use Rattle.std.proofs.Common.{zero, suc, subst, arith, inl, inr}
use Rattle.std.proofs.lemmas.Bool.{cases_lt}
use Rattle.std.proofs.lemmas.List.Elements.{Contains-append_cases}
use Rattle.mm_base.specs.declared.symbols.Sym.{Sym}
use Rattle.mm_base.specs.declared.symbols.Label.{Label}
use Rattle.mm_base.specs.declared.symbols.Typecode.{Typecode}
use Rattle.mm_base.specs.declared.tree.Tree.{Tree}
use Rattle.mm_base.specs.declared.tree.Tree.TheVariants as tree
use Rattle.solve_model.specs.Trees.{work, fresh, open_leaves, flatten, Occurs}
use Rattle.solve_model.proofs.TreeLaws.{open_leaves-Var, open_leaves-Work, open_leaves-Fresh, open_leaves-Node}
use Rattle.solve_laws.proofs.Elements.{nothing, only}
use Rattle.term_model.specs.declared.shape.Id.{Id}
use Rattle.term_model.specs.Terms.{Term, Var, Free, Node, term_at, no_code, children_of}
use Rattle.term_model.specs.Links.{Link, end_of}
use Rattle.term_model.specs.Store.{IsStore}
use Rattle.term_model.proofs.LinkLaws.{end_below}
use Rattle.chain_laws.specs.declared.leaves.WorkNode.{WorkNode}
use Rattle.chain_laws.specs.Leaves.{least_at, named_leaf, leaf_at}
use Rattle.chain_laws.specs.Reading.{made, read, value_at}
use Rattle.step_chain.proofs.Lists.{all_weaker}

-- ---- trees

module _ (m : ℕ) where
  -- the numbers of the tree's fresh leaves are below m
  abbrev pub IsLow : Tree → Type 0
  IsLow t = (c : Typecode) (n : ℕ) → Occurs (fresh c n) t → n < m

  low_Var : (s : Sym) (d : Typecode) → IsLow (tree.Var s d)
  low_Var s d c n o = absurd (nothing _ (rw open_leaves-Var at o))

  low_Work : (d : Typecode) (k : ℕ) → IsLow (tree.Work d k)
  low_Work d k c n o = absurd (other (only _ _ (rw open_leaves-Work at o)))
    where
      other : work d k ≡ fresh c n → ⊥
      other e = cc

  pub low_Fresh : (d : Typecode) (k : ℕ) → k < m → IsLow (tree.Fresh d k)
  low_Fresh d k h c n o = same (only _ _ (rw open_leaves-Fresh at o))
    where
      same : fresh d k ≡ fresh c n → n < m
      same e = let number : k ≡ n = cc in omega (arith, number, h)

  low_Node : (l : Label) (d : Typecode) (ts : List Tree) → AllByRecursion IsLow ts → IsLow (tree.Node l d ts)
  low_Node l d ts h c n o = among ts h (rw open_leaves-Node at o)
    where
      among : (us : List Tree) → AllByRecursion IsLow us → Contains (flatten (map open_leaves us)) (fresh c n) → n < m
      among [] g i = absurd (nothing _ i)
      among (u ∷ us) g i = elim (Contains-append_cases (open_leaves u) (flatten (map open_leaves us)) (fresh c n) i) [ inl one ↦ g.0 c n one | inr rest ↦ among us g.1 rest ]

  -- ---- terms

  low_leaf : (e : ℕ) (c : Typecode) → e < m → (o : Option WorkNode) → IsLow (named_leaf e c o)
  low_leaf e c h None = low_Fresh c e h
  low_leaf e c h (Some w) = low_Work w.code w.number

  low_kids : (f : ℕ → Tree) (kids : List Id) → AllByRecursion (λ (id : Id). IsLow (f id.0)) kids → AllByRecursion IsLow (map (λ (id : Id). f id.0) kids)
  low_kids f [] h = tt
  low_kids f (id ∷ kids) h = (h.0, low_kids f kids h.1)

  low_made : (links : List Link) (works : List WorkNode) (e : ℕ) (f : ℕ → Tree) → e < m → (x : Term)
      → AllByRecursion (λ (id : Id). IsLow (f id.0)) (children_of x) → IsLow (made (leaf_at links works) e f x)
  low_made links works e f h (Var s c) below = low_Var s c
  low_made links works e f h (Free c) below = low_leaf e c h (least_at links e works)
  low_made links works e f h (Node l c k kids) below = low_Node l c (map (λ (id : Id). f id.0) kids) (low_kids f kids below)

-- ---- a store

module _ (nodes : List Term) (links : List Link) (works : List WorkNode) (store : IsStore nodes links) where
  low_read : (d i : ℕ) → i < length nodes → IsLow (length nodes) (read nodes links (leaf_at links works) d i)
  unfolding read
  low_read zero i h = low_Fresh (length nodes) no_code 0 (omega (arith, h))
  low_read (suc d) i h =
      let end = end_below (length nodes) links i store.in_order h in
      low_made (length nodes) links works (end_of links i) (read nodes links (leaf_at links works) d) end (term_at nodes (end_of links i))
      (all_weaker (λ (id : Id). id.0 < end_of links i) (λ (id : Id). IsLow (length nodes) (read nodes links (leaf_at links works) d id.0)) (λ id below. low_read d id.0 (omega (arith, below, end)))
      (children_of (term_at nodes (end_of links i))) (store.children (end_of links i) end))

  pub low_value : (i : ℕ) → i < length nodes → IsLow (length nodes) (value_at nodes links works i)
  low_value i h = low_read (length nodes) i h

  low_unread : (m i : ℕ) → 0 < m → IsLow m (read nodes links (leaf_at links works) 0 i)
  unfolding read
  low_unread m i below = low_Fresh m no_code 0 below

  -- the first node, also where there is none
  pub low_first : (m : ℕ) → length nodes < m → IsLow m (value_at nodes links works 0)
  low_first m h = elim (cases_lt 0 (length nodes)) [
    | inl some ↦ λ c n o. let below = low_value 0 some c n o in omega (arith, below, h)
    | inr none ↦
        let empty : 0 ≡ length nodes = omega (arith, none) in
        subst (λ (d : ℕ). IsLow m (read nodes links (leaf_at links works) d 0)) empty (low_unread m 0 (omega (arith, h)))
  ]
