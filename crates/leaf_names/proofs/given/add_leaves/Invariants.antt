use Rattle.std.proofs.Common.{take}
use Rattle.leaf_names.specs.Tables.{Adds}
use Rattle.leaf_names.specs.Cursors.{IsKept}
use Rattle.leaf_names.proofs.given.add_leaves.Given as goal

abbrev pub invariant-loop-leaf : goal.invariant-loop-leaf
invariant-loop-leaf l = IsKept l.frames.symbols l.read.keys l.given.numbers.entries l.given.last.items
    × Adds l.frames.symbols l.read.keys (take l.leaf-index l.leaves) l.initial.given.numbers.entries l.given.numbers.entries
