use Rattle.writing_laws.proofs.Opened.{long_answered}
use Rattle.writing_laws.proofs.long_formula_is_answered.Goals as goal

pub returns : goal.returns
returns c = long_answered c.has_database_facts.ensures c.mandatory_variables_stand.ensures c.frames_have_own_expressions.ensures c.read_is_spellable.ensures
