use Rattle.std.proofs.Common.{sym}
use Rattle.written_model.specs.Written.{written_sheet, written_bound}
use Rattle.answer_laws.proofs.is_written_again.Goals as goal

pub returns : goal.returns
returns c = λ db text options w.
    c.is_written_by_parts.ensures db text options w (c.values_stay.ensures db text options w) (c.verdicts_stay.ensures db text options w)
    (λ o writes late s same. c.binds_without_lines.ensures db (written_sheet db options w) s (written_bound db options w) (sym same)
    (c.written_sheet_binds.ensures.binds db text options w o writes late))
