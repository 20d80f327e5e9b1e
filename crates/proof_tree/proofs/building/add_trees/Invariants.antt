use Rattle.std.proofs.Common.{nat_eq, map, take}
use Rattle.std.specs.HashMap.{get}
use Rattle.proof_tree.specs.Adding.{AddsAll}
use Rattle.proof_tree.specs.Given.{tree_proof}
use Rattle.proof_tree.proofs.building.add_trees.Given as goal

abbrev pub invariant-loop-tree : goal.invariant-loop-tree
invariant-loop-tree l = AddsAll l.initial.graph l.graph (map (tree_proof l.frames.labels (get nat_eq l.floats)) (take l.tree-index l.trees)) l.numbers.items
