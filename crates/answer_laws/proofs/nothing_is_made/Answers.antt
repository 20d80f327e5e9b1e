use Rattle.answer_laws.proofs.WrittenTwice.{nothing_is_made}
use Rattle.answer_laws.proofs.nothing_is_made.Goals as goal

pub returns : goal.returns
returns c = nothing_is_made c.has_database_facts.ensures c.mandatory_variables_stand.ensures c.frames_have_own_expressions.ensures c.read_is_spellable.ensures
