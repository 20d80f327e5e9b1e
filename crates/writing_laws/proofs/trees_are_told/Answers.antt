use Rattle.writing_laws.proofs.Opened.{trees_are_told}
use Rattle.writing_laws.proofs.trees_are_told.Goals as goal

pub returns : goal.returns
returns c = trees_are_told c.has_database_facts.ensures c.mandatory_variables_stand.ensures c.frames_have_own_expressions.ensures
