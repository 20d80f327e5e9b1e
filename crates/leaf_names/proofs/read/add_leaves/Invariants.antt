use Rattle.std.proofs.Common.{take}
use Rattle.std.specs.List.{filter_map}
use Rattle.written_model.specs.Named.{work_leaf}
use Rattle.leaf_names.specs.Tables.{AddsRead}
use Rattle.leaf_names.proofs.read.add_leaves.Given as goal

abbrev pub invariant-loop-leaf : goal.invariant-loop-leaf
invariant-loop-leaf l = AddsRead (filter_map work_leaf (take l.leaf-index l.leaves)) l.initial.read.keys l.read.keys
