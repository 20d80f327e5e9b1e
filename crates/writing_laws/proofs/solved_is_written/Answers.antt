use Rattle.writing_laws.proofs.Opened.{solved_written}
use Rattle.writing_laws.proofs.solved_is_written.Goals as goal

pub returns : goal.returns
returns c = solved_written c.has_database_facts.ensures c.mandatory_variables_stand.ensures c.frames_have_own_expressions.ensures c.read_is_spellable.ensures
