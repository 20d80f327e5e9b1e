-- A tree without a fresh leaf has none among its open leaves.
use Rattle.std.specs.Prelude.{◌≡◌, ℕ, List, [], ◌∷◌, map, Contains}
use Rattle.std.proofs.Common.{inl, inr}
use Rattle.std.proofs.lemmas.List.Elements.{Contains-append_cases}
use Rattle.mm_base.specs.declared.symbols.Typecode.{Typecode}
use Rattle.mm_base.specs.declared.tree.Tree.{Tree}
use Rattle.mm_base.specs.Trees.{Each}
use Rattle.mm_base.proofs.TreeInduction.{tree_ind}
use Rattle.mm_model.specs.Typed.{HasNoFresh}
use Rattle.mm_model.proofs.TypedLaws.{named_held, fresh_is_not_named}
use Rattle.solve_model.specs.Trees.{work, fresh, open_leaves, flatten}
use Rattle.solve_model.proofs.TreeLaws.{open_leaves-Var, open_leaves-Work, open_leaves-Node}
use Rattle.solve_laws.proofs.Elements.{nothing, only}

module _ (d : Typecode) (n : ℕ) where
  abbrev Without : Tree → Type 0
  Without t = HasNoFresh t → Contains (open_leaves t) (fresh d n) → ⊥

  all_without : (ts : List Tree) → Each Without ts → Each HasNoFresh ts → Contains (flatten (map open_leaves ts)) (fresh d n) → ⊥
  all_without [] w h o = nothing _ o
  all_without (t ∷ ts) w h o = elim (Contains-append_cases (open_leaves t) (flatten (map open_leaves ts)) (fresh d n) o) [ inl one ↦ w.0 h.0 one | inr rest ↦ all_without ts w.1 h.1 rest ]

  other_leaf : (c : Typecode) (m : ℕ) → work c m ≡ fresh d n → ⊥
  other_leaf c m e = cc

  pub no_fresh_leaf : (t : Tree) → Without t
  no_fresh_leaf = tree_ind Without
      (λ s c h o. nothing _ (rw open_leaves-Var at o))
      (λ c m h o. other_leaf c m (only _ _ (rw open_leaves-Work at o)))
      (λ c m h o. fresh_is_not_named c m h)
      (λ l c ts w h o. all_without ts w (named_held l c ts h) (rw open_leaves-Node at o))
