use Rattle.filling_laws.proofs.ValueEarlier.{bound_comes_before}
use Rattle.filling_laws.proofs.ValueLaws.{values_are_short}
use Rattle.filling_laws.proofs.values_are_short.Goals as goal

pub returns-clause-short : goal.returns-clause-short
returns-clause-short c = values_are_short c.assertions_are_whole.ensures c.accepted_are_candidates.ensures

pub returns-clause-earlier : goal.returns-clause-earlier
returns-clause-earlier c = bound_comes_before c.read_is_spellable.ensures
