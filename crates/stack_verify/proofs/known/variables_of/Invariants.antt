use Rattle.std.proofs.Common.{take}
use Rattle.stack_verify.specs.Contexts.{SameVariables}
use Rattle.stack_verify.proofs.known.variables_of.Given as goal

abbrev pub invariant-loop-hyp : goal.invariant-loop-hyp
invariant-loop-hyp l = SameVariables (take l.hyp-index l.hyps) l.set
