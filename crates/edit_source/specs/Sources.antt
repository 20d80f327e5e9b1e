-- Taking bytes.
use Rattle.std.specs.Prelude.{◌≡◌, ◌++◌, ℕ, List, Option, Some, None, IfSome, ⊤}

-- what was told to be left was these bytes and what is left now
abbrev pub Takes : Option (List ℕ) → Option (List ℕ) → List ℕ → Type 0
Takes None now bytes = ⊤
Takes (Some before) None bytes = ⊥
Takes (Some before) (Some now) bytes = before ≡ bytes ++ now
