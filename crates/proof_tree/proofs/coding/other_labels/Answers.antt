use Rattle.proof_tree.proofs.NameLaws.{other_at}
use Rattle.proof_tree.proofs.coding.other_labels.Goals as goal

pub loop-number-preserved : goal.loop-number-preserved
loop-number-preserved c = λ list are.
    other_at list c.args.mandatory.now.names c.loop-number.labels c.put_label.new.labels c.args.mandatory.now.places.items c.args.nodes.now
    c.args.order.now c.loop-number.number-index c.index-nodes-number.result c.as_slice-label.result.now
    c.loop-number-test.true c.requires c.as_slice-label.ensures are (c.loop-number.invariant list are) c.in_ok-put_label.ensures
