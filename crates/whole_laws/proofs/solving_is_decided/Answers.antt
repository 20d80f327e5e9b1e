use Rattle.whole_laws.proofs.Equations.{solvable_decided}
use Rattle.whole_laws.proofs.solving_is_decided.Goals as goal

pub returns : goal.returns
returns c = solvable_decided
