-- What is known of the places that were found. This is part of the proof, and not of the claim.
use Rattle.std.specs.Prelude.{◌≡◌, ℕ}
use Rattle.formula_parse.specs.declared.reach.Ends.{Ends}
use Rattle.formula_parse.specs.declared.reach.Ends.TheVariants.{Nowhere, Only, Several}
use Rattle.formula_parse.specs.declared.reach.Reached.{Reached}
use Rattle.formula_parse.specs.declared.reach.Reached.TheVariants as reached
use Rattle.formula_parse.specs.Charts.{IsIn}

-- the place is none, is that one, or may be any
abbrev pub IsAmong : Ends → ℕ → Type 0
IsAmong Nowhere m = ⊥
IsAmong (Only e) m = m ≡ e
IsAmong Several m = Unit {0}

-- the place is none, is that one, or is one of those
abbrev pub IsReached : Reached → ℕ → Type 0
IsReached reached.Nowhere m = ⊥
IsReached (reached.Only e) m = m ≡ e
IsReached (reached.Several ends) m = IsIn ends.items m
