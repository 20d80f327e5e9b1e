use Rattle.step_filling.proofs.StepLaws.{values_fault}
use Rattle.step_filling.proofs.accepted.used_step.Goals as goal

pub returns-in-Err-clause-fault : goal.returns-in-Err-clause-fault
returns-in-Err-clause-fault c = values_fault c.args.trees.now c.args.i c.in-Err.fault c.in-Err.ensures.fault c.in-Err.ensures.read
