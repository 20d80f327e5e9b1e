use Rattle.std.proofs.Common.{◌∙◌}
use Rattle.written_model.specs.Named.{name_tree}
use Rattle.leaf_names.specs.Tables.{naming_of}
use Rattle.step_naming.proofs.DraftLaws.{mapped_on}
use Rattle.step_naming.proofs.renaming.named_trees.Goals as goal

pub loop-tree-preserved : goal.loop-tree-preserved
loop-tree-preserved c =
    c.in_ok-push.ensures.items
    ∙ mapped_on (name_tree (naming_of c.args.names.now.given)) c.args.trees.now c.loop-tree.tree-index c.tree-item.result
    c.loop-tree.named.items c.in_ok-named.field-0 c.loop-tree-test.true c.loop-tree.invariant
    c.in_ok-named.ensures c.tree-item.is
