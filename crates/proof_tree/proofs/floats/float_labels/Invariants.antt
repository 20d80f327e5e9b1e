use Rattle.std.proofs.Common.{nat_eq, take}
use Rattle.std.specs.HashMap.{get}
use Rattle.proof_tree.specs.Given.{AreFloats}
use Rattle.proof_tree.proofs.floats.float_labels.Given as goal

abbrev pub invariant-loop-hyp : goal.invariant-loop-hyp
invariant-loop-hyp l = AreFloats (take l.hyp-index l.hyps) (get nat_eq l.labels)
