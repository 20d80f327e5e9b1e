-- The position of the first that passes, element by element.
use Rattle.std.proofs.Common.{◌≡◌, ℕ, suc, ◌+◌, Bool, true, false, cond, ltb, List, ◌∷◌, length, position, Option, Some, None, option_map, refl, inl, inr, arith}
use Rattle.std.specs.List.{position_or_len}
use Rattle.std.proofs.lemmas.Bool.{cases_Bool}
use Rattle.std.proofs.lemmas.Bool.Decides.{nat_tests}

pub position-cons : {X : Type 0} (p : X → Bool) (x : X) (xs : List X) → position p (x ∷ xs) ≡ cond (p x) (Some 0) (option_map (λ n. suc n) (position p xs))
position-cons p x xs =
    let one : 1 + position_or_len p xs ≡ suc (position_or_len p xs) = omega arith in
    elim (cases_Bool (p x)) [
      | inl h ↦ let z : ltb 0 (suc (length xs)) ≡ true = grind (arith, nat_tests) in rw (h, z) refl
      | inr h ↦ elim (cases_Bool (ltb (position_or_len p xs) (length xs))) [
        | inl l ↦ let m : ltb (suc (position_or_len p xs)) (suc (length xs)) ≡ true = grind (arith, nat_tests) in rw (h, one, m, l) refl
        | inr l ↦ let m : ltb (suc (position_or_len p xs)) (suc (length xs)) ≡ false = grind (arith, nat_tests) in rw (h, one, m, l) refl
      ]
    ]
