use Rattle.proof_laws.proofs.NumberLaws.{one_spelling, spells_number, steps_are, spells_steps}
use Rattle.proof_laws.proofs.one_spelling.Goals as goal

pub returns : goal.returns
returns c = record { number_once = one_spelling; number = spells_number; steps_once = steps_are; steps = spells_steps }
