-- A tree in which a variable stands has, replaced, at least as many tokens as what that variable is replaced by.
use Rattle.std.specs.Prelude.{◌≡◌, ◌≤◌, ◌+◌, ℕ, List, [], ◌∷◌, map, sum, Contains}
use Rattle.std.proofs.Common.{ap, subst, arith, inl, inr}
use Rattle.std.proofs.lemmas.List.Sums.{sum_by-cons}
use Rattle.std.proofs.lemmas.List.Elements.{Contains-append_cases}
use Rattle.mm_base.specs.declared.symbols.Sym.{Sym}
use Rattle.mm_base.specs.declared.symbols.Label.{Label}
use Rattle.mm_base.specs.declared.symbols.Typecode.{Typecode}
use Rattle.mm_base.specs.declared.tree.Tree.{Tree}
use Rattle.mm_base.specs.declared.tree.Tree.TheVariants.{Fresh, Node}
use Rattle.mm_base.specs.Trees.{Each}
use Rattle.mm_base.proofs.TreeInduction.{tree_ind}
use Rattle.mm_base.proofs.TreeFolds.{fold-Fresh, fold-Node}
use Rattle.mm_model.specs.Productions.{TypedVariable}
use Rattle.solve_model.specs.Trees.{Open, replace, flatten}
use Rattle.solve_model.proofs.TreeLaws.{replace-Var, replace-Node}
use Rattle.solve_laws.proofs.Elements.{nothing, only}
use Rattle.term_model.specs.Sizes.{layer_tokens, tokens}
use Rattle.again_laws.specs.Leaves.{typed, typed_leaves}
use Rattle.again_laws.proofs.LeafLaws.{leaves-Var, leaves-Work, leaves-Fresh, leaves-Node}

sum_more : (n : ℕ) (ns : List ℕ) → sum (n ∷ ns) ≡ n + sum ns
sum_more n ns = sum_by-cons (λ (x : ℕ). x) n ns

module _ (constants : Label → ℕ) where
  pub fresh_tokens : (c : Typecode) (n : ℕ) → tokens constants (Fresh c n) ≡ 1
  unfolding tokens
  fresh_tokens c n = fold-Fresh ℕ (layer_tokens constants) c n

  node_tokens : (l : Label) (c : Typecode) (ts : List Tree) → tokens constants (Node l c ts) ≡ constants l + sum (map (tokens constants) ts)
  unfolding tokens
  node_tokens l c ts = fold-Node ℕ (layer_tokens constants) l c ts

  module _ (a : Sym → Typecode → Tree) (p : Open → Tree) (v : TypedVariable) where
    abbrev Within : Tree → Type 0
    Within t = Contains (typed_leaves t) v → tokens constants (a v.sym v.code) ≤ tokens constants (replace a p t)

    within_all : (ts : List Tree) → Each Within ts → Contains (flatten (map typed_leaves ts)) v → tokens constants (a v.sym v.code) ≤ sum (map (tokens constants) (map (replace a p) ts))
    within_all [] h m = absurd (nothing v m)
    within_all (t ∷ ts) h m = elim (Contains-append_cases (typed_leaves t) (flatten (map typed_leaves ts)) v m) [
      | inl one ↦ let here = h.0 one in let parts = sum_more (tokens constants (replace a p t)) (map (tokens constants) (map (replace a p) ts)) in omega (arith, here, parts)
      | inr more ↦ let rest = within_all ts h.1 more in let parts = sum_more (tokens constants (replace a p t)) (map (tokens constants) (map (replace a p) ts)) in omega (arith, rest, parts)
    ]

    pub within : (t : Tree) → Within t
    within = tree_ind Within
        (λ s c m. rw replace-Var (subst (λ (w : TypedVariable). tokens constants (a w.sym w.code) ≤ tokens constants (a s c)) (only v (typed s c) (rw leaves-Var at m)) (omega arith)))
        (λ c n m. absurd (nothing v (rw leaves-Work at m)))
        (λ c n m. absurd (nothing v (rw leaves-Fresh at m)))
        (λ l c ts h m.
        let inside = within_all ts h (rw leaves-Node at m) in
        let whole = node_tokens l c (map (replace a p) ts) in
        let same = ap (tokens constants) (replace-Node a p l c ts) in
        omega (arith, inside, whole, same))
