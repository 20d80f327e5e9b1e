-- Children that are moved out of a list, each from the place of its slot.
use Rattle.std.specs.Prelude.{◌≡◌, ◌≢◌, ◌<◌, ◌≤◌, ◌+◌, ℕ, zero, suc, List, [], ◌∷◌, ◌++◌, length, Some, slice_get, slice_set, refl}
use Rattle.std.proofs.Common.{arith, sym, ap, ◌∙◌, ⊎_elim, get_or}
use Rattle.std.proofs.lemmas.Bool.{cases_lt}
use Rattle.mm_base.specs.declared.tree.Tree.{Tree}
use Rattle.mm_model.specs.Rows.{place_of, EachOnce}
use Rattle.formula_parse.proofs.Arranged.{get_place}

-- slots at one place are one slot
pub place_once : (order : List ℕ) (n i k : ℕ) → EachOnce n order → i < n → k < n → place_of i order ≡ place_of k order → i ≡ k
place_once order n i k once l m is =
    sym (get_place i order (once.found i l)) ∙ ap (λ p. get_or order p 0) is ∙ get_place k order (once.found k m)

pub slice_get_other : {X : Type 0} (xs : List X) (at j : ℕ) (y : X) → j ≢ at → slice_get (slice_set xs at y) j ≡ slice_get xs j
slice_get_other [] at j y h = refl
slice_get_other (x ∷ xs) zero zero y h = absurd (h refl)
slice_get_other (x ∷ xs) zero (suc j) y h = refl
slice_get_other (x ∷ xs) (suc at) zero y h = refl
slice_get_other (x ∷ xs) (suc at) (suc j) y h = slice_get_other xs at j y (λ e. h (ap suc e))

pub slice_get_before : {X : Type 0} (xs : List X) (y : X) (j : ℕ) → j < length xs → slice_get (xs ++ y ∷ []) j ≡ slice_get xs j
slice_get_before [] y j l = absurd (omega arith)
slice_get_before (x ∷ xs) y zero l = refl
slice_get_before (x ∷ xs) y (suc j) l = slice_get_before xs y j (omega arith)

pub slice_get_last : {X : Type 0} (xs : List X) (y : X) (j : ℕ) → j ≡ length xs → slice_get (xs ++ y ∷ []) j ≡ Some y
slice_get_last [] y zero l = refl
slice_get_last [] y (suc j) l = absurd (omega arith)
slice_get_last (x ∷ xs) y zero l = absurd (omega arith)
slice_get_last (x ∷ xs) y (suc j) l = slice_get_last xs y j (omega arith)

module _ (trees : List Tree) (order : List ℕ) (n : ℕ) (once : EachOnce n order) where
  -- the children that were moved so far
  pub moved_turn : (children : List Tree) (k : ℕ) (got : Tree) → length children ≡ k → k < n → slice_get trees (place_of k order) ≡ Some got
      → ((i : ℕ) → i < k → slice_get children i ≡ slice_get trees (place_of i order)) → (i : ℕ) → i < k + 1 → slice_get (children ++ got ∷ []) i ≡ slice_get trees (place_of i order)
  moved_turn children k got count l at h i m = ⊎_elim
      (λ (j : i < k). slice_get_before children got i (omega (arith, count)) ∙ h i j)
      (λ (j : k ≤ i). let is : i ≡ k = omega arith in slice_get_last children got i (is ∙ sym count) ∙ sym at ∙ ap (λ p. slice_get trees (place_of p order)) (sym is))
      (cases_lt i k)

  -- and those that are left
  pub left_turn : (left : List Tree) (k : ℕ) (d : Tree) → k < n → ((i : ℕ) → k ≤ i → i < n → slice_get left (place_of i order) ≡ slice_get trees (place_of i order))
      → (i : ℕ) → k + 1 ≤ i → i < n → slice_get (slice_set left (place_of k order) d) (place_of i order) ≡ slice_get trees (place_of i order)
  left_turn left k d l h i m o = slice_get_other left (place_of k order) (place_of i order) d (λ e. (let is = place_once order n i k once o l e in omega (arith, is))) ∙ h i (omega arith) o
