-- Symbols by name.
use Rattle.std.specs.Prelude.{◌≡◌, ℕ, not, Bool, true, false, List, length, position, nat_lt, Some, None, option_map, refl}
use Rattle.std.specs.List.{position_or_len}
use Rattle.std.proofs.Common.{arith, sym, ◌∙◌, cond, inl, inr}
use Rattle.std.proofs.lemmas.Bool.{cases_lt, lt-ltb}
use Rattle.std.proofs.lemmas.List.Sums.{prefix_len-le-length}

some_there : {Y : Type 0} (f : ℕ → Y) (b : Bool) (k : ℕ) → option_map f (cond b (Some k) None) ≡ None → b ≡ false
some_there f true k e = absurd (cc)
some_there f false k e = refl

-- a name that is not found is past the last
pub past_last : {X Y : Type 0} (f : ℕ → Y) (p : X → Bool) (xs : List X) → option_map f (position p xs) ≡ None → position_or_len p xs ≡ length xs
past_last f p xs e =
    let none = some_there f (nat_lt (position_or_len p xs) (length xs)) (position_or_len p xs) e in
    let most = prefix_len-le-length (λ x. not (p x)) xs in
    elim (cases_lt (position_or_len p xs) (length xs)) [
      | inl l ↦ let some = lt-ltb (position_or_len p xs) (length xs) l in let bad : true ≡ false = sym some ∙ none in absurd (cc)
      | inr l ↦ omega (arith, l, most)
    ]
