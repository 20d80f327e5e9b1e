use Rattle.writing_laws.proofs.Opened.{each_bound}
use Rattle.writing_laws.proofs.each_is_bound.Goals as goal

pub returns : goal.returns
returns c = each_bound c.has_database_facts.ensures c.mandatory_variables_stand.ensures c.frames_have_own_expressions.ensures
