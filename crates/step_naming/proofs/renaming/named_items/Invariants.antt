use Rattle.std.proofs.Common.{◌≡◌, map}
use Rattle.leaf_names.specs.Tables.{naming_of}
use Rattle.step_naming.specs.Named.{rename_item}
use Rattle.step_naming.proofs.renaming.named_items.Given as goal

abbrev pub invariant-loop-item : goal.invariant-loop-item
invariant-loop-item l = l.named.items ≡ map (rename_item (naming_of l.names.given)) l.yielded
