use Rattle.solve_laws.proofs.SameTrees.{same_tree-Decides}
use Rattle.solve_laws.proofs.same_trees_are_equal.Goals as goal

pub returns : goal.returns
returns c = same_tree-Decides
