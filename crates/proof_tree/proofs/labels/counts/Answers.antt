use Rattle.std.proofs.Common.{fold, ap, ◌∙◌}
use Rattle.proof_tree.specs.Graphs.{added_count}
use Rattle.proof_tree.specs.declared.graph.ProofNode.{ProofNode}
use Rattle.proof_tree.proofs.GraphLaws.{counts_inside, counted_more}
use Rattle.proof_tree.proofs.labels.counts.Goals as goal

pub count-number-requires : goal.count-number-requires
count-number-requires c =
    counts_inside c.args.nodes.now c.loop-node.node-index c.node-item.result c.as_slice.result.now c.deref.result.now c.loop-node-test.true c.requires
    (c.as_slice.ensures ∙ ap (λ (n : ProofNode). n.below) c.node-item.is) (c.deref.ensures.value ∙ c.loop-node.invariant)

pub loop-node-preserved : goal.loop-node-preserved
loop-node-preserved c =
    counted_more c.args.nodes.now c.loop-node.node-index c.count-number.result c.node-item.result c.as_slice.result.now c.loop-node.counts.items c.push.new.self.items c.loop-node-test.true
    c.requires (c.as_slice.ensures ∙ ap (λ (n : ProofNode). n.below) c.node-item.is) c.loop-node.invariant
    (c.count-number.ensures ∙ ap (λ cs. fold (added_count cs) 1 c.as_slice.result.now) c.deref.ensures.value) c.in_ok-push.ensures.items
