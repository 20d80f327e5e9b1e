use Rattle.std.proofs.Common.{◌∙◌}
use Rattle.mmp_run.proofs.Exported.{outcome_exports, fault_exports, sheet_at}
use Rattle.mmp_run.proofs.export.end_opened.Goals as goal

pub returns-in-Ok-clause-answer : goal.returns-in-Ok-clause-answer
returns-in-Ok-clause-answer c = λ text opened p.
    outcome_exports c.answer_is_exported.ensures c.args.options.now text c.args.name.now c.args.db.now c.args.proof.now.label c.args.proof.now.code opened p c.as_slice.result.now
    (sheet_at c.args.options.now text c.args.name.now c.args.db.now c.args.proof.now.label c.args.proof.now.code opened p c.as_slice.result.now
    (c.as_slice.ensures ∙ c.in_ok-text.ensures text p.theorem.frame opened p.theorem.frame_is))
    c.in-Ok.outcome c.end_worksheet.result (c.in-Ok.ensures.outcome text opened) (λ w is. c.end_worksheet.ensures.written c.args.options.now text w opened is)

pub returns-clause-answer : goal.returns-clause-answer
returns-clause-answer c = λ text opened p.
    fault_exports c.answer_is_exported.ensures c.args.options.now text c.args.name.now c.args.db.now c.args.proof.now.label c.args.proof.now.code opened p c.as_slice.result.now
    (sheet_at c.args.options.now text c.args.name.now c.args.db.now c.args.proof.now.label c.args.proof.now.code opened p c.as_slice.result.now
    (c.as_slice.ensures ∙ c.in_ok-text.ensures text p.theorem.frame opened p.theorem.frame_is))
    c.in-Err.fault c.end_fault.result (c.in-Err.ensures.fault text opened) c.end_fault.ensures.told c.end_fault.ensures.line
