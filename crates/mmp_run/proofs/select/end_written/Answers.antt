use Rattle.std.proofs.Common.{refl}
use Rattle.mmp_run.proofs.Asked.{step_asked}
use Rattle.mmp_run.proofs.Unified.{book}
use Rattle.mmp_run.proofs.select.end_written.Goals as goal

pub returns-clause-asks : goal.returns-clause-asks
returns-clause-asks c = λ text sheet w opened is written.
    step_asked c.selection_is_the_answer.ensures c.args.options.now text sheet c.args.step.now c.args.db.now w c.written_sheet-written.result c.in_ok-selection.selection c.end_selection.result opened is
    (c.written_sheet-written.ensures (book c.args.options.now text c.args.db.now) c.args.options.now w refl written)
    (rw c.as_bytes.ensures.value at c.in_ok-selection.ensures) (c.end_selection.ensures.gives c.args.options.now.kinds text opened)
