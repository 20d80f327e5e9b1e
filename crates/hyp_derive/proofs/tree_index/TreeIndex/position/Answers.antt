use Rattle.std.proofs.Common.{ap, ◌∙◌}
use Rattle.std.specs.List.{position}
use Rattle.solve_model.specs.Trees.{same_tree}
use Rattle.hyp_derive.proofs.IndexLaws.{first_is}
use Rattle.hyp_derive.proofs.tree_index.TreeIndex.position.Goals as goal

pub returns : goal.returns
returns c =
    c.first_same.ensures
    ∙ first_is c.same_trees_are_equal.ensures c.self.inside.places c.self.inside.trees.items c.as_slice.result.now c.at.result.now c.args.tree.now c.tree_hash.result c.self.invariant
    c.as_slice.ensures.value c.tree_hash.ensures c.at.ensures
    ∙ ap (position (same_tree c.args.tree.now)) c.self.view_is
