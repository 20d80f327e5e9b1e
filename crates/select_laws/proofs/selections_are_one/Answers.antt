use Rattle.select_laws.proofs.OneSelection.{selection_is_one}
use Rattle.select_laws.proofs.selections_are_one.Goals as goal

pub returns : goal.returns
returns c = selection_is_one c.has_database_facts.ensures c.mandatory_variables_stand.ensures c.frames_have_own_expressions.ensures c.sound_text_is_read.ensures.one
