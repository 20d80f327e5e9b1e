use Rattle.answer_laws.proofs.WrittenTwice.{written_fixed}
use Rattle.answer_laws.proofs.written_is_fixed.Goals as goal

pub returns : goal.returns
returns c = written_fixed c.written_reads_back.ensures
