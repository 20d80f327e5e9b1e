use Rattle.solve_laws.proofs.ReplaceLaws.{replace-replace, replace-self, alike}
use Rattle.solve_laws.proofs.replaced_leaves.Goals as goal

pub returns : goal.returns
returns c = record { twice = replace-replace; by_self = replace-self; alike = alike }
