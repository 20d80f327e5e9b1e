use Rattle.again_laws.proofs.Setting.{setting}
use Rattle.again_laws.proofs.VerdictsStay.{verdicts_stay}
use Rattle.again_laws.proofs.verdicts_stay.Goals as goal

pub returns : goal.returns
returns c = λ db text options w opened writes late.
    verdicts_stay db options w _ _ (setting c.has_database_facts.ensures c.assertions_are_whole.ensures c.read_is_spellable.ensures db text options w opened writes)
