use Rattle.answer_laws.proofs.WrittenTwice.{searches_stay}
use Rattle.answer_laws.proofs.search_stays.Goals as goal

pub returns : goal.returns
returns c = searches_stay c.has_database_facts.ensures c.mandatory_variables_stand.ensures c.frames_have_own_expressions.ensures c.read_is_spellable.ensures
