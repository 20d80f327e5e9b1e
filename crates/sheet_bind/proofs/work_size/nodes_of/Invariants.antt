use Rattle.std.proofs.Common.{◌≡◌, ◌-◌, ◌^◌, min, sum, map, take}
use Rattle.mm_model.specs.Sizes.{nodes}
use Rattle.sheet_bind.proofs.work_size.nodes_of.Given as goal

abbrev pub invariant-loop-tree : goal.invariant-loop-tree
invariant-loop-tree l = l.count ≡ min (sum (map nodes (take l.tree-index l.trees))) (2 ^ 64 - 1)
