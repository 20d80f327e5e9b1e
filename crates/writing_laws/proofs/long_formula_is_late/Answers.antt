use Rattle.writing_laws.proofs.LongSteps.{filled_late, new_before, front_late}
use Rattle.writing_laws.proofs.long_formula_is_late.Goals as goal

pub returns : goal.returns
returns c = record { filled = λ db options w text d writes h. filled_late db options w text writes d h; new = new_before; front = front_late }
