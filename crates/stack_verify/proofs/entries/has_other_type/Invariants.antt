use Rattle.proof_model.specs.Machine.{differs_in_type}
use Rattle.stack_verify.specs.Taken.{taken}
use Rattle.stack_verify.proofs.Entering.{Next}
use Rattle.stack_verify.proofs.entries.has_other_type.Given as goal

abbrev pub invariant-loop-place : goal.invariant-loop-place
invariant-loop-place l = Next differs_in_type (taken l.entries) l.place
