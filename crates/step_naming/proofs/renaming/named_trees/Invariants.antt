use Rattle.std.proofs.Common.{◌≡◌, map, take}
use Rattle.written_model.specs.Named.{name_tree}
use Rattle.leaf_names.specs.Tables.{naming_of}
use Rattle.step_naming.proofs.renaming.named_trees.Given as goal

abbrev pub invariant-loop-tree : goal.invariant-loop-tree
invariant-loop-tree l = l.named.items ≡ map (name_tree (naming_of l.names.given)) (take l.tree-index l.trees)
