use Rattle.std.proofs.Common.{◌≡◌, ◌++◌, take}
use Rattle.proof_model.specs.ProofCode.{steps_letters}
use Rattle.compressed_proof.proofs.writer.push_steps.Given as goal

abbrev pub invariant-loop-step : goal.invariant-loop-step
invariant-loop-step l = l.out.items ≡ l.initial.out.items ++ steps_letters l.mandatory l.labels (take l.step-index l.steps)
