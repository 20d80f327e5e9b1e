use Rattle.answer_laws.proofs.WrittenTwice.{written_by_parts}
use Rattle.answer_laws.proofs.is_written_by_parts.Goals as goal

pub returns : goal.returns
returns c =
    written_by_parts c.has_database_facts.ensures c.mandatory_variables_stand.ensures c.frames_have_own_expressions.ensures c.read_is_spellable.ensures c.written_reads_back.ensures
