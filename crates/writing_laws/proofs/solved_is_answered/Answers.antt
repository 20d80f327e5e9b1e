use Rattle.writing_laws.proofs.Opened.{solved_answered}
use Rattle.writing_laws.proofs.solved_is_answered.Goals as goal

pub returns : goal.returns
returns c = solved_answered c.has_database_facts.ensures c.mandatory_variables_stand.ensures c.frames_have_own_expressions.ensures c.read_is_spellable.ensures
