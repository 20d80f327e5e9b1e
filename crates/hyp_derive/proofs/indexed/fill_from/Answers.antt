use Rattle.std.proofs.Common.{refl, ◌∙◌}
use Rattle.hyp_derive.proofs.FillLaws.{one_more, filled_is}
use Rattle.hyp_derive.proofs.indexed.fill_from.Goals as goal

pub loop-tree-preserved : goal.loop-tree-preserved
loop-tree-preserved c =
    one_more c.args.earlier.now c.args.wanted.now c.loop-tree.tree-index c.tree-item.result c.loop-tree.made c.add.new.made c.loop-tree.places.items c.push.new.self.items
    c.in_ok-place.place c.loop-tree-test.true c.tree-item.is c.loop-tree.invariant.0 c.loop-tree.invariant.1 c.in_ok-place.ensures.made c.in_ok-place.ensures.place c.in_ok-push.ensures.items

pub returns : goal.returns
returns c =
    filled_is (λ t. (c.same_trees_are_equal.ensures t t).1 refl) c.args.earlier.now c.args.earlier.now c.args.wanted.now c.args.wanted.now c.into_trees.result c.from_vec.result
    c.loop-tree.tree-index refl refl c.loop-tree-test.false (c.into_trees.ensures ∙ c.loop-tree.invariant.0) (c.from_vec.ensures ∙ c.loop-tree.invariant.1)
