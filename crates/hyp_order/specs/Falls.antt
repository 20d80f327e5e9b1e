-- Lists of numbers that fall. This is part of the proof, and not of the claim.
use Rattle.std.specs.Prelude.{ℕ, ◌≤◌, List, [], ◌∷◌}

-- no number is above a bound
abbrev pub AtMost : ℕ → List ℕ → Type 0
AtMost b [] = Unit {0}
AtMost b (x ∷ xs) = (x ≤ b) × AtMost b xs

-- no number is above one before it
abbrev pub Falls : List ℕ → Type 0
Falls [] = Unit {0}
Falls (x ∷ xs) = AtMost x xs × Falls xs
