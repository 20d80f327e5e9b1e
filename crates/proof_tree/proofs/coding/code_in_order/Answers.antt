use Rattle.std.proofs.Common.{sym, subst}
use Rattle.proof_tree.specs.Walks.{AreUses}
use Rattle.proof_tree.proofs.StepLaws.{code_is, other_labels_are}
use Rattle.proof_tree.proofs.coding.code_in_order.Goals as goal

pub returns : goal.returns
returns c = λ list mandatory.
    let labels = other_labels_are c.args.nodes.now c.args.order.now c.in_ok-labels.labels list c.requires.graph c.requires.order (c.in_ok-labels.ensures list mandatory) in
    code_is c.args.nodes.now list c.in_ok-labels.labels c.in_ok-listed.listed c.in_ok-steps.steps c.in_ok-listed.ensures labels
    (c.in_ok-steps.ensures list c.args.order.now mandatory c.requires.order (subst (AreUses c.args.nodes.now c.args.order.now) (sym c.deref.ensures.value) c.in_ok-uses.ensures) labels)
