use Rattle.answer_laws.proofs.OneAnswer.{answers_one}
use Rattle.answer_laws.proofs.answers_are_one.Goals as goal

pub returns : goal.returns
returns c = answers_one c.has_database_facts.ensures c.mandatory_variables_stand.ensures c.frames_have_own_expressions.ensures c.sound_text_is_read.ensures.one
