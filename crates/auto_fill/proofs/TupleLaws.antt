-- Tuples, and facts of each of their elements.
use Rattle.std.proofs.Common.{◌≡◌, ℕ, zero, suc, List, [], ◌∷◌, ◌++◌, length, map, refl, ap}
use Rattle.std.specs.List.{AllByRecursion, flat_map}
use Rattle.auto_model.specs.AutoFilled.{tuples}
use Rattle.ref_search.proofs.Lists.{all_weaker}

-- so many elements that have a property
pub record IsTuple {X : Type 0} (P : X → Type 0) (n : ℕ) (xs : List X) : Type 0 where
  pub count : length xs ≡ n
  pub each : AllByRecursion P xs

all_map : {X Y : Type 0} (P : Y → Type 0) (Q : X → Type 0) (f : X → Y) → ((x : X) → Q x → P (f x)) → (xs : List X) → AllByRecursion Q xs → AllByRecursion P (map f xs)
all_map P Q f h [] k = tt
all_map P Q f h (x ∷ xs) k = (h x k.0, all_map P Q f h xs k.1)

pub all_both_lists : {X : Type 0} (P : X → Type 0) (xs ys : List X) → AllByRecursion P xs → AllByRecursion P ys → AllByRecursion P (xs ++ ys)
all_both_lists P [] ys h k = k
all_both_lists P (x ∷ xs) ys h k = (h.0, all_both_lists P xs ys h.1 k)

all_flat : {X Y : Type 0} (P : Y → Type 0) (Q : X → Type 0) (f : X → List Y) → ((x : X) → Q x → AllByRecursion P (f x)) → (xs : List X) → AllByRecursion Q xs → AllByRecursion P (flat_map f xs)
all_flat P Q f h [] k = tt
all_flat P Q f h (x ∷ xs) k = all_both_lists P (f x) (flat_map f xs) (h x k.0) (all_flat P Q f h xs k.1)

pub all_tuples : {X : Type 0} (P : X → Type 0) (n : ℕ) (xs : List X) → AllByRecursion P xs → AllByRecursion (IsTuple P n) (tuples n xs)
all_tuples P zero xs h = (record { count = refl; each = tt }, tt)
all_tuples P (suc n) xs h =
    all_flat (IsTuple P (suc n)) P (λ x. map (λ more. x ∷ more) (tuples n xs))
    (λ x p. all_map (IsTuple P (suc n)) (IsTuple P n) (λ more. x ∷ more) (λ more t. record { count = ap suc t.count; each = (p, t.each) }) (tuples n xs) (all_tuples P n xs h))
    xs h

pub tuples_count : {X : Type 0} (n : ℕ) (xs : List X) → AllByRecursion (λ (t : List X). length t ≡ n) (tuples n xs)
tuples_count {X} n xs = all_weaker (IsTuple (λ (x : X). Unit {0}) n) (λ t. length t ≡ n) (λ t h. h.count) (tuples n xs) (all_tuples (λ (x : X). Unit {0}) n xs (by xs))
  where
    by : (ys : List X) → AllByRecursion (λ (x : X). Unit {0}) ys
    by [] = tt
    by (y ∷ ys) = (tt, by ys)
