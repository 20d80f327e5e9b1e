use Rattle.std.proofs.Common.{ap, ◌∙◌}
use Rattle.proof_tree.specs.declared.graph.ProofNode.{ProofNode}
use Rattle.proof_tree.proofs.GraphLaws.{last_inside, fewer_pending, backwards_more}
use Rattle.proof_tree.proofs.labels.backwards.Goals as goal

pub loop-number-smaller : goal.loop-number-smaller
loop-number-smaller c =
    fewer_pending c.args.nodes.now c.loop-number.pending.items c.pop.new.self.items c.extend_from_slice.new.self.items c.as_slice-in-Some.result.now c.in-Some.number c.index-nodes-number.result
    c.in-Some.ensures.items (last_inside c.args.nodes.now c.loop-number.pending.items c.pop.new.self.items c.in-Some.number c.in-Some.ensures.items c.loop-number.invariant.inside) c.requires.earlier
    (c.as_slice-in-Some.ensures ∙ ap (λ (n : ProofNode). n.below) c.index-nodes-number.is) c.in_ok-extend_from_slice.ensures.items

pub loop-number-preserved : goal.loop-number-preserved
loop-number-preserved c =
    backwards_more c.args.nodes.now c.loop-number.pending.items c.pop.new.self.items c.extend_from_slice.new.self.items c.as_slice-in-Some.result.now
    c.loop-number.labels.items c.push-in-Some.new.self.items
    c.in_ok-copy_of.field-0 c.in-Some.number c.index-nodes-number.result
    c.in-Some.ensures.items (last_inside c.args.nodes.now c.loop-number.pending.items c.pop.new.self.items c.in-Some.number c.in-Some.ensures.items c.loop-number.invariant.inside) c.requires.earlier
    (c.as_slice-in-Some.ensures ∙ ap (λ (n : ProofNode). n.below) c.index-nodes-number.is) (c.in_ok-copy_of.ensures ∙ c.as_slice.ensures ∙ ap (λ (n : ProofNode). n.label) c.index-nodes-number.is)
    c.in_ok-extend_from_slice.ensures.items c.in_ok-push-2.ensures.items c.loop-number.invariant
