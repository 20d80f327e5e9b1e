use Rattle.std.proofs.Common.{◌≡◌, take}
use Rattle.step_report.specs.Marks as marking
use Rattle.step_report.proofs.finished.mark_places.Given as goal

abbrev pub invariant-loop-place : goal.invariant-loop-place
invariant-loop-place l = l.marks ≡ marking.mark_places l.initial.marks (take l.place-index l.places)
