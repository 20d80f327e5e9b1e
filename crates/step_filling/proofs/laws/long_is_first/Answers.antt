use Rattle.step_filling.proofs.CountLaws as laws
use Rattle.step_filling.proofs.laws.long_is_first.Goals as goal

pub returns-clause-first : goal.returns-clause-first
returns-clause-first c = laws.long_is_first

pub returns-clause-short : goal.returns-clause-short
returns-clause-short c = laws.short_is_short
