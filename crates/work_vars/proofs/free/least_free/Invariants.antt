use Rattle.std.proofs.Common.{◌≡◌, ℕ, ◌+◌, ◌-◌, ◌<◌, ◌≤◌, true, length}
use Rattle.work_vars.specs.Free.{is_used}
use Rattle.work_vars.proofs.free.least_free.Given as goal

abbrev pub invariant-loop-number : goal.invariant-loop-number
invariant-loop-number l = (1 ≤ l.low) × ((n : ℕ) → 1 ≤ n → n < l.low → is_used l.used n ≡ true)

abbrev pub decreases-loop-number : goal.decreases-loop-number
decreases-loop-number l = length l.used + 2 - l.low
