use Rattle.solve_laws.proofs.OneValuation.{most_general_is_one}
use Rattle.solve_laws.proofs.most_general_is_one.Goals as goal

pub returns : goal.returns
returns c = most_general_is_one
