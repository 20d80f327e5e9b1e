use Rattle.writing_laws.proofs.Opened.{leaves_named}
use Rattle.writing_laws.proofs.fresh_leaves_can_be_named.Goals as goal

pub returns : goal.returns
returns c = leaves_named c.has_database_facts.ensures c.mandatory_variables_stand.ensures c.frames_have_own_expressions.ensures
