use Rattle.solve_laws.proofs.SolveLaws.{instance_solves}
use Rattle.solve_laws.proofs.instance_solves.Goals as goal

pub returns : goal.returns
returns c = instance_solves
