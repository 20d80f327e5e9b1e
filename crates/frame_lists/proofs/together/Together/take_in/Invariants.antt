use Rattle.frame_lists.proofs.TogetherLaws.{IsTaken}
use Rattle.frame_lists.proofs.together.Together.take_in.Given as goal

abbrev pub invariant-loop-place : goal.invariant-loop-place
invariant-loop-place l = IsTaken l.listed l.distinct l.place l.self
