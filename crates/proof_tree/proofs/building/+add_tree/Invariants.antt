use Rattle.std.proofs.Common.{nat_eq, map, take}
use Rattle.std.specs.HashMap.{get}
use Rattle.proof_tree.specs.Adding.{AddsAll}
use Rattle.proof_tree.specs.Given.{tree_proof}
use Rattle.proof_tree.proofs.building.+add_tree.Given as goal

abbrev pub invariant-loop-child : goal.invariant-loop-child
invariant-loop-child l = AddsAll l.initial.graph l.graph (map (tree_proof l.frames.labels (get nat_eq l.floats)) (take l.child-index l.child-items)) l.below.items
