use Rattle.mmp_run.proofs.Filled.{outcome_fills, fault_fills}
use Rattle.mmp_run.proofs.auto.end_text.Goals as goal

pub returns-in-Ok-clause-answer : goal.returns-in-Ok-clause-answer
returns-in-Ok-clause-answer c = λ text sheet w opened answers is.
    outcome_fills c.answer_is_filled.ensures c.args.options.now text sheet c.args.db.now opened c.filling_is_the_answer.ensures w c.args.filled.now answers is c.in-Ok.outcome
    c.end_outcome.result (c.in-Ok.ensures.outcome text opened) (λ v written. c.end_outcome.ensures.written c.args.options.now text v opened written)

pub returns-in-Err-clause-answer : goal.returns-in-Err-clause-answer
returns-in-Err-clause-answer c = λ text sheet w opened answers is.
    fault_fills c.answer_is_filled.ensures c.args.options.now text sheet c.args.db.now opened c.filling_is_the_answer.ensures w c.args.filled.now answers is c.in-Err.fault
    c.end_fault.result (c.in-Err.ensures.fault text opened) c.end_fault.ensures.told c.end_fault.ensures.line
