-- The trees that are wanted for a step, up to the first that is too long.
use Rattle.std.specs.Prelude.{◌≡◌, ℕ, List, ◌∷◌, ◌++◌, map, drop, Option, Some, None, Err}
use Rattle.std.specs.List.{AllByRecursion}
use Rattle.mm_base.specs.declared.symbols.Label.{Label}
use Rattle.mm_base.specs.declared.tree.Tree.{Tree}
use Rattle.solve_model.specs.Solutions.{Valuation, instance}
use Rattle.step_chain.specs.declared.reading.TreeFault.TheVariants.{TooLong}
use Rattle.step_chain.specs.Readings.{IsRead}
use Rattle.step_chain.specs.Answers.{IsShort}

-- the `$e` from a number on, valued
abbrev pub wanted_from : Valuation → ℕ → ℕ → List Tree → List Tree
wanted_from g i first hyps = map (instance g i) (drop first hyps)

abbrev pub AreShort : (Label → ℕ) → List Tree → Type 0
AreShort constants ts = AllByRecursion (IsShort constants) ts

-- the tree is too long, with so many tokens
abbrev pub IsTooLong : (Label → ℕ) → Tree → ℕ → Type 0
IsTooLong constants t n = IsRead constants t (Err (TooLong n))

-- these are all that are wanted, and none is too long; or the next one is
abbrev pub AreWanted : (Label → ℕ) → List Tree → List Tree → Option ℕ → Type 0
AreWanted constants wanted found None = (found ≡ wanted) × AreShort constants wanted
AreWanted constants wanted found (Some n) = AreShort constants found × ((t : Tree) × (more : List Tree) × (wanted ≡ found ++ t ∷ more) × IsTooLong constants t n)
