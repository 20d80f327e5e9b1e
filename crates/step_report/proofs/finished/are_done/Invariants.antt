use Rattle.step_report.proofs.DoneLaws.{AreDoneTo}
use Rattle.step_report.proofs.finished.are_done.Given as goal

abbrev pub invariant-loop-number : goal.invariant-loop-number
invariant-loop-number l = AreDoneTo l.db l.steps l.report l.marks l.number
