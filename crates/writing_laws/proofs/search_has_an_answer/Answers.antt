use Rattle.writing_laws.proofs.Opened.{each_searched}
use Rattle.writing_laws.proofs.search_has_an_answer.Goals as goal

pub returns : goal.returns
returns c = each_searched c.has_database_facts.ensures c.mandatory_variables_stand.ensures c.frames_have_own_expressions.ensures
