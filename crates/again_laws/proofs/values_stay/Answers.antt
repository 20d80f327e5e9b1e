use Rattle.again_laws.proofs.GeneralAgain.{the_valuation}
use Rattle.again_laws.proofs.Setting.{setting}
use Rattle.again_laws.proofs.values_stay.Goals as goal

pub returns : goal.returns
returns c = λ db text options w opened writes late.
    the_valuation db options w _ _ (setting c.has_database_facts.ensures c.assertions_are_whole.ensures c.read_is_spellable.ensures db text options w opened writes)
