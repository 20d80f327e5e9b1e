use Rattle.mmp_run.proofs.Filled.{writing_fills, first_fault_fills}
use Rattle.mmp_run.proofs.auto.end_opened.Goals as goal

pub returns-in-Ok-clause-answer : goal.returns-in-Ok-clause-answer
returns-in-Ok-clause-answer c = λ text sheet opened says.
    writing_fills c.answer_is_filled.ensures c.args.options.now text sheet c.args.db.now opened c.in-Ok.outcome c.end_written.result
    (c.in-Ok.ensures.outcome text sheet opened says) (λ w is written. c.end_written.ensures.answer text sheet w opened is written)

pub returns-in-Err-clause-answer : goal.returns-in-Err-clause-answer
returns-in-Err-clause-answer c = λ text sheet opened says.
    first_fault_fills c.answer_is_filled.ensures c.args.options.now text sheet c.args.db.now opened c.in-Err.fault c.end_fault.result
    (c.in-Err.ensures.fault text sheet opened says) c.end_fault.ensures.told c.end_fault.ensures.line
