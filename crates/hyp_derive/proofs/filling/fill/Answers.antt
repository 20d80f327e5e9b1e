use Rattle.std.proofs.Common.{refl, ◌∙◌}
use Rattle.hyp_derive.proofs.FillLaws.{one_more, filled_is}
use Rattle.hyp_derive.proofs.filling.fill.Goals as goal

pub loop-tree-preserved : goal.loop-tree-preserved
loop-tree-preserved c =
    one_more c.as_slice-known.result.now c.as_slice-tree-items.result.now c.loop-tree.tree-index c.tree-item.result c.loop-tree.made.items c.add.new.made.items c.loop-tree.places.items
    c.push.new.self.items c.in_ok-place.place c.loop-tree-test.true c.tree-item.is c.loop-tree.invariant.0 c.loop-tree.invariant.1 c.in_ok-place.ensures.made c.in_ok-place.ensures.place
    c.in_ok-push.ensures.items

pub returns : goal.returns
returns c =
    filled_is (λ t. (c.same_trees_are_equal.ensures t t).1 refl) c.as_slice-known.result.now c.args.earlier.now c.as_slice-tree-items.result.now c.args.wanted.now c.from_vec.result
    c.from_vec-2.result c.loop-tree.tree-index c.as_slice-known.ensures c.as_slice-tree-items.ensures c.loop-tree-test.false (c.from_vec.ensures ∙ c.loop-tree.invariant.0)
    (c.from_vec-2.ensures ∙ c.loop-tree.invariant.1)
