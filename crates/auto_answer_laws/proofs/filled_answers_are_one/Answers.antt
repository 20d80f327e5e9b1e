use Rattle.auto_answer_laws.proofs.OneFilled.{filled_answer_is_one}
use Rattle.auto_answer_laws.proofs.filled_answers_are_one.Goals as goal

pub returns : goal.returns
returns c =
    filled_answer_is_one c.has_database_facts.ensures c.mandatory_variables_stand.ensures c.frames_have_own_expressions.ensures c.sound_text_is_read.ensures.one
    c.answers_are_one.ensures
