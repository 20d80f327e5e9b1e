use Rattle.writing_laws.proofs.Opened.{bound_judged}
use Rattle.writing_laws.proofs.bound_is_judged.Goals as goal

pub returns : goal.returns
returns c = bound_judged c.has_database_facts.ensures c.mandatory_variables_stand.ensures c.frames_have_own_expressions.ensures c.read_is_spellable.ensures
