use Rattle.proof_model.specs.Machine.{differs_in_formula}
use Rattle.stack_verify.specs.Taken.{taken}
use Rattle.stack_verify.proofs.Entering.{Next}
use Rattle.stack_verify.proofs.entries.check_hyps.Given as goal

abbrev pub invariant-loop-place : goal.invariant-loop-place
invariant-loop-place l = Next (differs_in_formula (taken l.entries)) (taken l.entries) l.place
