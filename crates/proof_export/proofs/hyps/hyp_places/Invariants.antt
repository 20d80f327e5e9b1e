use Rattle.std.proofs.Common.{take}
use Rattle.proof_export.specs.Places.{AreHyps}
use Rattle.proof_export.proofs.hyps.hyp_places.Given as goal

abbrev pub invariant-loop-place : goal.invariant-loop-place
invariant-loop-place l = AreHyps (take l.place l.hyps) l.places.entries
