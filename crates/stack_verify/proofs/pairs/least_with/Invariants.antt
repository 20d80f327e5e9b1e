use Rattle.std.proofs.Common.{◌≤◌, length}
use Rattle.stack_verify.proofs.Leasts.{LeastWith}
use Rattle.stack_verify.proofs.pairs.least_with.Given as goal

abbrev pub invariant-loop-left : goal.invariant-loop-left
invariant-loop-left l = record { within : l.left ≤ length l.others; least : LeastWith l.known l.rule l.v l.others l.left l.fn.later l.best }

abbrev pub decreases-loop-left : goal.decreases-loop-left
decreases-loop-left l = l.left
