use Rattle.std.proofs.Common.{◌≤◌, length}
use Rattle.stack_verify.proofs.Leasts.{LeastOf}
use Rattle.stack_verify.proofs.pairs.least_failing.Given as goal

abbrev pub invariant-loop-left : goal.invariant-loop-left
invariant-loop-left l = record { within : l.left ≤ length l.firsts; least : LeastOf l.known l.rule l.firsts l.seconds l.left l.best }

abbrev pub decreases-loop-left : goal.decreases-loop-left
decreases-loop-left l = l.left
