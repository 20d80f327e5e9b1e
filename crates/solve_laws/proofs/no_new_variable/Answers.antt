use Rattle.solve_laws.proofs.NewVariables.{no_new_variable}
use Rattle.solve_laws.proofs.no_new_variable.Goals as goal

pub returns : goal.returns
returns c = no_new_variable
