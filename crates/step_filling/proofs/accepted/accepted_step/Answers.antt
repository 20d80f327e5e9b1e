use Rattle.step_filling.specs.Filled.{IsUseFault, IsOwnFault}
use Rattle.step_filling.proofs.StepLaws.{if_err, use_fault}
use Rattle.step_filling.proofs.accepted.accepted_step.Goals as goal

pub returns-in-Ok-clause-fault : goal.returns-in-Ok-clause-fault
returns-in-Ok-clause-fault c =
    let h = c.args.trees.now in
    if_err (IsUseFault h c.args.i) (IsOwnFault h c.args.i c.args.step.now.name) c.used_step.result
    (use_fault h c.args.i c.args.step.now.name (λ kinds text sheet opened binds code. (c.in-Ok.ensures kinds text sheet opened binds code).1)) c.used_step.ensures.fault
