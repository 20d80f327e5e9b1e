use Rattle.std.proofs.Common.{subst}
use Rattle.sheet_unify.specs.Ended.{IsStepFault}
use Rattle.sheet_unify.proofs.LateLaws.{step_fault_answered}
use Rattle.sheet_unify.proofs.ending.outcome_of.Goals as goal

pub returns-in-Err-clause-fault : goal.returns-in-Err-clause-fault
returns-in-Err-clause-fault c = λ database text opened bound_sheet.
    step_fault_answered c.args.db.now c.args.options.now c.args.sheet.now c.args.bound.now c.args.items database text opened bound_sheet
    (c.requires.drafted database text opened bound_sheet) c.in-Err.fault
    (subst (λ is. IsStepFault c.args.db.now c.args.bound.now.place is c.in-Err.fault) c.as_slice.ensures c.in-Err.ensures.fault)
