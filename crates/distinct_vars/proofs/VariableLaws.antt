-- What is folded over the variables of a tree, by its parts.
use Rattle.std.proofs.Common.{◌≡◌, ℕ, ◌+◌, ◌<◌, ◌≤◌, List, [], ◌∷◌, map, take, fold, length, get_or, Some, refl, sym, ap, ◌∙◌}
use Rattle.std.specs.Option.{option_map_or}
use Rattle.std.proofs.lemmas.List.{take_all}
use Rattle.std.proofs.lemmas.List.Concat.{flat_map-cons}
use Rattle.std.proofs.lemmas.List.Sums.{fold-append, fold_more}
use Rattle.mm_base.specs.declared.symbols.Sym.{Sym}
use Rattle.mm_base.specs.declared.tree.Tree.{Tree}
use Rattle.solve_model.specs.Trees.{variables, flatten}
use Rattle.mm_model.specs.Names.{sym as symbol}
use Rattle.distinct_vars.specs.NeededPairs.{distinct, put_number}
use Rattle.distinct_vars.specs.Values.{value_at, variables_at}

module _ {X : Type 0} (f : X → Sym → X) where
  abbrev pub over_tree : X → Tree → X
  over_tree a t = fold f a (variables t)

  pub fold_trees : (a : X) (ts : List Tree) → fold f a (flatten (map variables ts)) ≡ fold over_tree a ts
  fold_trees a [] = refl
  fold_trees a (t ∷ ts) =
      ap (fold f a) (flat_map-cons (λ (xs : List Sym). xs) (variables t) (map variables ts)) ∙ fold-append f a (variables t) (flatten (map variables ts)) ∙ fold_trees (over_tree a t) ts

  -- one tree more
  pub step_more : (a : X) (ts : List Tree) (i : ℕ) (t : Tree) (now next : X) → i < length ts → t ≡ get_or ts i t → now ≡ fold over_tree a (take i ts) → next ≡ fold f now (variables t)
      → next ≡ fold over_tree a (take (i + 1) ts)
  step_more a ts i t now next h is n e =
      e ∙ ap (λ x. fold f x (variables t)) n ∙ ap (λ x. fold f (fold over_tree a (take i ts)) (variables x)) is ∙ sym (fold_more over_tree a ts i t h)

  -- all trees of a node
  pub all_trees : (a : X) (ts us : List Tree) (vs : List Sym) (i : ℕ) (now : X) → us ≡ ts → vs ≡ flatten (map variables ts) → length us ≤ i → now ≡ fold over_tree a (take i us)
      → now ≡ fold f a vs
  all_trees a ts us vs i now same is h n =
      n ∙ ap (fold over_tree a) (take_all i us h) ∙ ap (fold over_tree a) same ∙ sym (fold_trees a ts) ∙ ap (fold f a) (sym is)

-- ---- variables listed

pub listed_at : (vars : List Sym) (trees : List Tree) (s : Sym) (t : Tree) (start numbers : List ℕ) → Some t ≡ value_at vars trees s → start ≡ [] → numbers ≡ fold put_number start (variables t)
    → map symbol numbers ≡ distinct (variables_at vars trees s)
listed_at vars trees s t start numbers e none is =
    ap (map symbol) (is ∙ ap (λ ns. fold put_number ns (variables t)) none) ∙ ap (λ o. distinct (option_map_or variables o [])) e
