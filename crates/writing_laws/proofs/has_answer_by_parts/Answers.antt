use Rattle.writing_laws.proofs.Opened.{answer_by_parts}
use Rattle.writing_laws.proofs.has_answer_by_parts.Goals as goal

pub returns : goal.returns
returns c =
    answer_by_parts c.has_database_facts.ensures c.mandatory_variables_stand.ensures c.frames_have_own_expressions.ensures c.read_is_spellable.ensures
    c.sound_text_is_read.ensures.read
