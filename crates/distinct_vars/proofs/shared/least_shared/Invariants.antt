use Rattle.std.proofs.Common.{◌≡◌, ℕ, ◌-◌, ◌^◌, ◌≤◌, true}
use Rattle.solve_model.specs.Trees.{variables}
use Rattle.distinct_vars.specs.Shared.{has_number}
use Rattle.distinct_vars.proofs.shared.least_shared.Given as goal

abbrev pub invariant-loop-first : goal.invariant-loop-first
invariant-loop-first l = (n : ℕ) → has_number (variables l.one) n ≡ true → has_number (variables l.other) n ≡ true → l.low ≤ n

abbrev pub decreases-loop-first : goal.decreases-loop-first
decreases-loop-first l = 2 ^ 32 - l.low
