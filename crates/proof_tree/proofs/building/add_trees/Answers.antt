use Rattle.std.proofs.Common.{nat_eq}
use Rattle.std.specs.HashMap.{get}
use Rattle.proof_tree.specs.Given.{tree_proof}
use Rattle.proof_tree.proofs.BuildLaws.{adds_more}
use Rattle.proof_tree.proofs.building.add_trees.Goals as goal

pub loop-tree-preserved : goal.loop-tree-preserved
loop-tree-preserved c =
    adds_more (tree_proof c.args.frames.now.labels (get nat_eq c.args.floats.now)) c.args.trees.now c.loop-tree.tree-index c.tree-item.result c.args.graph.now c.loop-tree.graph c.add_tree.new.graph
    c.loop-tree.numbers.items c.push.new.self.items c.in_ok-add_tree.field-0 c.loop-tree-test.true c.tree-item.is c.loop-tree.invariant c.in_ok-add_tree.ensures c.in_ok-push.ensures.items
