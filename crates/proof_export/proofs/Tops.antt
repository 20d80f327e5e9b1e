-- The entries on top of a stack that is kept the oldest first.
use Rattle.std.proofs.Common.{◌≡◌, ◌<◌, ◌≤◌, ℕ, zero, suc, ◌-◌, List, [], ◌∷◌, ◌++◌, length, take, drop, get_or, Some, refl, sym, ap, ◌∙◌, arith}
use Rattle.std.specs.Prelude.{reverse, slice_get}
use Rattle.std.proofs.lemmas.List.{length-drop, length-reverse, reverse-append, reverse-reverse, take-append-drop}
use Rattle.std.proofs.Math.Seq.{drop-append_seam, take-append_seam}

pub get_there : {A : Type 0} (xs : List A) (k : ℕ) (d : A) → k < length xs → slice_get xs k ≡ Some (get_or xs k d)
get_there [] k d low = absurd (omega arith)
get_there (x ∷ xs) zero d low = refl
get_there (x ∷ xs) (suc k) d low = get_there xs k d (omega arith)

module _ {A : Type 0} (xs : List A) (n : ℕ) (enough : n ≤ length xs) where
  abbrev below : List A
  below = take (length xs - n) xs

  abbrev top : List A
  top = drop (length xs - n) xs

  count : length (reverse top) ≡ n
  count = length-reverse top ∙ length-drop (length xs - n) xs ∙ omega arith

  turned : reverse xs ≡ reverse top ++ reverse below
  turned = ap (λ (l : List A). reverse l) (sym (take-append-drop (length xs - n) xs)) ∙ reverse-append below top

  pub top_is : reverse (take n (reverse xs)) ≡ drop (length xs - n) xs
  top_is = ap (λ (l : List A). reverse (take n l)) turned ∙ ap (λ (k : ℕ). reverse (take k (reverse top ++ reverse below))) (sym count)
      ∙ ap (λ (l : List A). reverse l) (take-append_seam (reverse top) (reverse below)) ∙ reverse-reverse top

  pub rest_is : drop n (reverse xs) ≡ reverse (take (length xs - n) xs)
  rest_is = ap (drop n) turned ∙ ap (λ (k : ℕ). drop k (reverse top ++ reverse below)) (sym count) ∙ drop-append_seam (reverse top) (reverse below)
