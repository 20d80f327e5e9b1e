-- Tests with their codes, and the first that holds. This is part of the proof, and not of the claim.
use Rattle.std.specs.Prelude.{◌≡◌, ℕ, Bool, true, List, [], ◌∷◌, slice_get, Option, Some, None, if◌then◌else◌}

-- the code of the first test that holds
abbrev pub first_true : List (ℕ × Bool) → Option ℕ
first_true [] = None
first_true (t ∷ ts) = if t.1 then Some t.0 else first_true ts

-- a test with this code holds
abbrev pub HoldsIn : List (ℕ × Bool) → ℕ → Type 0
HoldsIn tests code = (k : ℕ) × (slice_get tests k ≡ Some (code, true))
