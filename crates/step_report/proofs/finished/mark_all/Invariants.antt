use Rattle.step_report.proofs.MarkLaws.{IsMarking}
use Rattle.step_report.proofs.finished.mark_all.Given as goal

abbrev pub invariant-loop-left : goal.invariant-loop-left
invariant-loop-left l = IsMarking l.steps l.left l.marks

abbrev pub decreases-loop-left : goal.decreases-loop-left
decreases-loop-left l = l.left
