-- Lists that have got one more.
use Rattle.std.specs.Prelude.{◌≡◌, ℕ, ◌<◌, ◌≤◌, List, [], ◌∷◌, ◌++◌, length, slice_get, Option, Some, None, Contains, refl}
use Rattle.std.specs.List.{AllByRecursion, AllZip}
use Rattle.std.proofs.Common.{take, zero, suc, ap, subst, ◌∙◌, arith}

module _ {X : Type 0} where
  pub get_front : (xs ys : List X) (k : ℕ) → k < length xs → slice_get (xs ++ ys) k ≡ slice_get xs k
  get_front [] ys k h = absurd (omega (arith, h))
  get_front (x ∷ xs) ys zero h = refl
  get_front (x ∷ xs) ys (suc k) h = get_front xs ys k (omega (arith, h))

  pub get_seam : (xs : List X) (y : X) → slice_get (xs ++ y ∷ []) (length xs) ≡ Some y
  get_seam [] y = refl
  get_seam (x ∷ xs) y = let number : length (x ∷ xs) ≡ suc (length xs) = omega arith in ap (slice_get (x ∷ (xs ++ y ∷ []))) number ∙ get_seam xs y

  pub get_past : (xs : List X) (k : ℕ) (x : X) → length xs ≤ k → slice_get xs k ≡ Some x → ⊥
  get_past [] k x h e = let impossible : ◌≡◌ {A = Option X} None (Some x) = e in absurd (cc)
  get_past (y ∷ xs) zero x h e = absurd (omega (arith, h))
  get_past (y ∷ xs) (suc k) x h e = get_past xs k x (omega (arith, h)) e

  pub all_has : (P : X → Type 0) (xs : List X) (x : X) → AllByRecursion P xs → Contains xs x → P x
  all_has P [] x h (k, l, e) = absurd (omega (arith, l))
  all_has P (y ∷ xs) x h (zero, l, e) = subst P e h.0
  all_has P (y ∷ xs) x h (suc k, l, e) = all_has P xs x h.1 (k, omega (arith, l), e)

  pub all_join : (P : X → Type 0) (xs ys : List X) → AllByRecursion P xs → AllByRecursion P ys → AllByRecursion P (xs ++ ys)
  all_join P [] ys h g = g
  all_join P (x ∷ xs) ys h g = (h.0, all_join P xs ys h.1 g)

  pub all_take : (P : X → Type 0) (k : ℕ) (xs : List X) → AllByRecursion P xs → AllByRecursion P (take k xs)
  all_take P zero xs h = tt
  all_take P (suc k) [] h = tt
  all_take P (suc k) (x ∷ xs) h = (h.0, all_take P k xs h.1)

  pub all_weaker : (P Q : X → Type 0) → ((x : X) → P x → Q x) → (xs : List X) → AllByRecursion P xs → AllByRecursion Q xs
  all_weaker P Q f [] h = tt
  all_weaker P Q f (x ∷ xs) h = (f x h.0, all_weaker P Q f xs h.1)

  pub all_at : (P : X → Type 0) (xs : List X) (k : ℕ) (x : X) → AllByRecursion P xs → slice_get xs k ≡ Some x → P x
  all_at P [] k x h e = let impossible : ◌≡◌ {A = Option X} None (Some x) = e in absurd (cc)
  all_at P (y ∷ xs) zero x h e = let same : y ≡ x = cc in subst P same h.0
  all_at P (y ∷ xs) (suc k) x h e = all_at P xs k x h.1 e

  pub all_each : (P : X → Type 0) (xs : List X) → ((k : ℕ) (x : X) → slice_get xs k ≡ Some x → P x) → AllByRecursion P xs
  all_each P [] f = tt
  all_each P (x ∷ xs) f = (f 0 x refl, all_each P xs (λ k y e. f (suc k) y e))

pub zip_weaker : {X Y : Type 0} (P : X → Type 0) (R S : X → Y → Type 0) → ((x : X) (y : Y) → P x → R x y → S x y) → (xs : List X) (ys : List Y)
    → AllByRecursion P xs → AllZip R xs ys → AllZip S xs ys
zip_weaker P R S f [] [] a z = tt
zip_weaker P R S f [] (y ∷ ys) a z = absurd z
zip_weaker P R S f (x ∷ xs) [] a z = absurd z
zip_weaker P R S f (x ∷ xs) (y ∷ ys) a z = (f x y a.0 z.0, zip_weaker P R S f xs ys a.1 z.1)
