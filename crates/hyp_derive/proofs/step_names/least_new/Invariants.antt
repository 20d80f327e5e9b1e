use Rattle.hyp_derive.specs.Naming.{AreUsedBelow}
use Rattle.hyp_derive.proofs.step_names.least_new.Given as goal

abbrev pub invariant-loop-number : goal.invariant-loop-number
invariant-loop-number l = AreUsedBelow l.names l.number
