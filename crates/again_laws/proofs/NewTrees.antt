-- The trees that fill missing places.
use Rattle.std.specs.Prelude.{◌≡◌, ◌⊎◌, ◌<◌, ℕ, zero, suc, Bool, true, false, List, [], ◌∷◌, ◌++◌, length, map, zip, Contains, slice_get, Some, refl}
use Rattle.std.specs.List.{list_any, position_or_len}
use Rattle.std.proofs.Common.{sym, ap, subst, ◌∙◌, arith, inl, inr, append_assoc, get_or}
use Rattle.std.proofs.lemmas.Bool.{cases_Bool, or_left, or_right}
use Rattle.std.proofs.lemmas.List.Folds.{list_any-append}
use Rattle.std.proofs.lemmas.List.Sums.{passes_at_first}
use Rattle.std.proofs.lemmas.Option.{slice_get-get_or}
use Rattle.mm_base.specs.declared.tree.Tree.{Tree}
use Rattle.mm_model.specs.Names.{Name}
use Rattle.solve_model.specs.Trees.{same_tree}
use Rattle.solve_laws.proofs.Elements.{nothing, first, later, parted}
use Rattle.solve_laws.proofs.SameTrees.{same_tree-Decides}
use Rattle.written_model.specs.Filled.{new_trees, derived_names, made_step}
use Rattle.written_model.specs.WrittenSteps.{WrittenStep}

-- each new tree is wanted
new_by : (seen : List Tree) (w : Tree) (ws : List Tree) (t : Tree) (b : Bool) → list_any (same_tree w) seen ≡ b → Contains (new_trees seen (w ∷ ws)) t
    → (Contains (new_trees seen ws) t) ⊎ ((w ≡ t) ⊎ Contains (new_trees (seen ++ w ∷ []) ws) t)
new_by seen w ws t true e m = inl (rw e at m)
new_by seen w ws t false e m = inr (parted t w (new_trees (seen ++ w ∷ []) ws) (rw e at m))

pub new_is_wanted : (seen wanted : List Tree) (t : Tree) → Contains (new_trees seen wanted) t → Contains wanted t
new_is_wanted seen [] t m = absurd (nothing t m)
new_is_wanted seen (w ∷ ws) t m = elim (new_by seen w ws t (list_any (same_tree w) seen) refl m) [
  | inl h ↦ later t w ws (new_is_wanted seen ws t h)
  | inr h ↦ elim h [ inl e ↦ first t w ws e | inr k ↦ later t w ws (new_is_wanted (seen ++ w ∷ []) ws t k) ]
]

-- a tree that was seen, or is wanted, stands among those seen and the new ones
abbrev Stands : List Tree → List Tree → Tree → Type 0
Stands seen new t = list_any (same_tree t) (seen ++ new) ≡ true

any_front : (p : Tree → Bool) (xs ys : List Tree) → list_any p xs ≡ true → list_any p (xs ++ ys) ≡ true
any_front p xs ys h = list_any-append p xs ys ∙ or_left (list_any p xs) (list_any p ys) h

any_back : (p : Tree → Bool) (xs ys : List Tree) → list_any p ys ≡ true → list_any p (xs ++ ys) ≡ true
any_back p xs ys h = list_any-append p xs ys ∙ or_right (list_any p xs) (list_any p ys) h

self : (t : Tree) → same_tree t t ≡ true
self t = (same_tree-Decides t t).1 refl

stands_by : (seen : List Tree) (w : Tree) (ws : List Tree) (t : Tree) (b : Bool) → list_any (same_tree w) seen ≡ b → (w ≡ t) ⊎ Contains ws t
    → (Contains ws t → Stands seen (new_trees seen ws) t) → (Contains ws t → Stands (seen ++ w ∷ []) (new_trees (seen ++ w ∷ []) ws) t) → Stands seen (new_trees seen (w ∷ ws)) t
stands_by seen w ws t true e (inl same) old fresh = rw e (any_front (same_tree t) seen (new_trees seen ws) (subst (λ x. list_any (same_tree x) seen ≡ true) same e))
stands_by seen w ws t true e (inr m) old fresh = rw e (old m)
stands_by seen w ws t false e (inl same) old fresh =
    let here : list_any (same_tree t) (w ∷ new_trees (seen ++ w ∷ []) ws) ≡ true = or_left (same_tree t w) _ (ap (same_tree t) same ∙ self t) in
    rw e (any_back (same_tree t) seen (w ∷ new_trees (seen ++ w ∷ []) ws) here)
stands_by seen w ws t false e (inr m) old fresh = rw e (ap (list_any (same_tree t)) (sym (append_assoc seen (w ∷ []) (new_trees (seen ++ w ∷ []) ws))) ∙ fresh m)

pub wanted_stands : (seen wanted : List Tree) (t : Tree) → Contains wanted t → Stands seen (new_trees seen wanted) t
wanted_stands seen [] t m = absurd (nothing t m)
wanted_stands seen (w ∷ ws) t m = stands_by seen w ws t (list_any (same_tree w) seen) refl (parted t w ws m) (wanted_stands seen ws t) (wanted_stands (seen ++ w ∷ []) ws t)

any_within : (p : Tree → Bool) (xs : List Tree) → list_any p xs ≡ true → position_or_len p xs < length xs
any_within p [] e = absurd cc
any_within p (x ∷ xs) e = elim (cases_Bool (p x)) [
  | inl d ↦ rw d (omega arith)
  | inr d ↦ let rest = any_within p xs (rw d at e) in rw d (omega (arith, rest))
]

-- so its place names it
pub filled_at : (ts : List Tree) (t : Tree) → list_any (same_tree t) ts ≡ true → (slice_get ts (position_or_len (same_tree t) ts) ≡ Some t) × (position_or_len (same_tree t) ts < length ts)
filled_at ts t h =
    let less = any_within (same_tree t) ts h in
    let pass = passes_at_first (same_tree t) ts t less in
    let same : t ≡ get_or ts (position_or_len (same_tree t) ts) t = (same_tree-Decides t (get_or ts (position_or_len (same_tree t) ts) t)).0 pass in
    (slice_get-get_or ts (position_or_len (same_tree t) ts) t less ∙ ap (λ x. Some x) (sym same), less)

pub names_long : (n : ℕ) (used : List Name) → length (derived_names n used) ≡ n
names_long zero used = refl
names_long (suc n) used = ap (λ k. suc k) (names_long n _)

pub made_trees : (ns : List Name) (ts : List Tree) → length ns ≡ length ts → map (λ (e : WrittenStep). e.tree) (map made_step (zip ns ts)) ≡ ts
made_trees [] [] e = refl
made_trees [] (t ∷ ts) e = absurd (omega (arith, e))
made_trees (n ∷ ns) [] e = absurd (omega (arith, e))
made_trees (n ∷ ns) (t ∷ ts) e = ap (λ xs. t ∷ xs) (made_trees ns ts (omega (arith, e)))
