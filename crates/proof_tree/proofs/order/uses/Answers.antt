use Rattle.std.proofs.Common.{◌+◌, length, take, get_or, sym, subst, ap, ◌∙◌, refl}
use Rattle.proof_tree.specs.Walks.{AreUses, AddUses}
use Rattle.proof_tree.proofs.UseLaws.{named_inside, all_uses_more, written_back}
use Rattle.proof_tree.proofs.order.uses.Goals as goal

pub count_uses-requires : goal.count_uses-requires
count_uses-requires c =
    (named_inside c.args.nodes.now c.args.order.now c.loop-number.number-index
    (get_or c.args.order.now c.loop-number.number-index
    0) c.index-nodes-number.result c.as_slice.result.now c.deref_mut.result.now c.requires.graph
    c.loop-number-test.true c.requires.inside refl c.as_slice.ensures (ap length c.deref_mut.ensures.value ∙ c.loop-number.invariant.many)).1

pub loop-number-preserved : goal.loop-number-preserved
loop-number-preserved c =
    let named =
    named_inside c.args.nodes.now c.args.order.now c.loop-number.number-index
    (get_or c.args.order.now c.loop-number.number-index
    0) c.index-nodes-number.result c.as_slice.result.now c.deref_mut.result.now c.requires.graph
    c.loop-number-test.true c.requires.inside refl c.as_slice.ensures (ap length c.deref_mut.ensures.value ∙ c.loop-number.invariant.many) in
    let back = written_back c.loop-number.uses.len c.count_uses.new.uses c.loop-number.uses.items (sym c.loop-number.uses.ok.0) (c.count_uses.auto.uses ∙ ap length c.deref_mut.ensures.value) in
    subst (AreUses c.args.nodes.now (take (c.loop-number.number-index + 1) c.args.order.now)) (sym back)
    (all_uses_more c.args.nodes.now c.args.order.now c.loop-number.number-index
    (get_or c.args.order.now c.loop-number.number-index
    0) c.as_slice.result.now c.loop-number.uses.items c.count_uses.new.uses c.loop-number-test.true refl named.0
    (c.count_uses.auto.uses ∙ ap length c.deref_mut.ensures.value) c.loop-number.invariant
    (subst (λ us. AddUses us c.count_uses.new.uses c.as_slice.result.now) c.deref_mut.ensures.value c.count_uses.ensures))
