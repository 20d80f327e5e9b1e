use Rattle.std.proofs.Common.{◌≡◌, ℕ, ◌+◌, ◌<◌, false, take, length, get_or}
use Rattle.work_vars.specs.Free.{is_used}
use Rattle.work_vars.proofs.free.mark_long.Given as goal

abbrev pub invariant-loop-number : goal.invariant-loop-number
invariant-loop-number l = (k : ℕ) → k < length l.marks → get_or l.marks k false ≡ is_used (take l.number-index l.used) (l.low + k)
