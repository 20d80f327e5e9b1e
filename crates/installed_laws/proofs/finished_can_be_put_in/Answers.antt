use Rattle.installed_laws.proofs.FinishedTheorem.{answer_can_be_put_in}
use Rattle.installed_laws.proofs.finished_can_be_put_in.Goals as goal

pub returns : goal.returns
returns c text sheet db options w sound is answers new finished =
    answer_can_be_put_in text sheet db options w sound is (c.names_are_words.ensures options.kinds text db is sound).1 new finished answers
    (c.written_reads_back.ensures db sheet options w) (c.written_sheet_binds.ensures.binds db sheet options w)
