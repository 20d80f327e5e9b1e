use Rattle.std.proofs.Common.{◌≡◌, map, take}
use Rattle.written_model.specs.Named.{name_tree}
use Rattle.leaf_names.specs.Tables.{naming_of}
use Rattle.leaf_names.proofs.renamed.+renamed.Given as goal

abbrev pub invariant-loop-child : goal.invariant-loop-child
invariant-loop-child l = l.named.items ≡ map (name_tree (naming_of l.given.entries)) (take l.child-index l.child-items)
