use Rattle.std.proofs.Common.{◌≡◌, ◌++◌, map, take}
use Rattle.sheet_writing.specs.Sheets.{leaf_in}
use Rattle.sheet_writing.proofs.tokens.put_leaves.Given as goal

abbrev pub invariant-loop-leaf : goal.invariant-loop-leaf
invariant-loop-leaf l = l.tokens.items ≡ l.initial.tokens.items ++ map (leaf_in l.frames.symbols) (take l.leaf-index l.leaves)
