use Rattle.std.proofs.Common.{◌≡◌, true, take}
use Rattle.std.specs.List.{list_all}
use Rattle.written_model.specs.Found as spec
use Rattle.ref_search.proofs.closed.are_ground.Given as goal

abbrev pub invariant-loop-tree : goal.invariant-loop-tree
invariant-loop-tree l = list_all spec.is_ground (take l.tree-index l.trees) ≡ true
