use Rattle.proof_tree.proofs.BuildLaws.{IsWoven}
use Rattle.proof_tree.proofs.building.woven.Given as goal

abbrev pub invariant-loop-hyp : goal.invariant-loop-hyp
invariant-loop-hyp l = IsWoven l.hyps l.floating l.essential l.hyp-index l.floating_at l.essential_at l.numbers.items
