use Rattle.mmp_run.proofs.Unified.{outcome_unifies, fault_unifies}
use Rattle.mmp_run.proofs.unify.end_opened.Goals as goal

pub returns-in-Ok-clause-answer : goal.returns-in-Ok-clause-answer
returns-in-Ok-clause-answer c = λ text sheet_text opened says.
    outcome_unifies c.answer_is_unified.ensures c.args.options.now text sheet_text c.args.database.now c.in-Ok.outcome c.end_outcome.result opened
    (c.in-Ok.ensures.outcome text sheet_text opened says) (λ w is. c.end_outcome.ensures.written c.args.options.now text w opened is)

pub returns-in-Err-clause-answer : goal.returns-in-Err-clause-answer
returns-in-Err-clause-answer c = λ text sheet_text opened says.
    fault_unifies c.answer_is_unified.ensures c.args.options.now text sheet_text c.args.database.now c.in-Err.fault c.end_fault.result opened
    (c.in-Err.ensures.fault text sheet_text opened says) c.end_fault.ensures.told c.end_fault.ensures.line
