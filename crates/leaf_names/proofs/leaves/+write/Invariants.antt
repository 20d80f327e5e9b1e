use Rattle.std.proofs.Common.{◌≡◌, ◌++◌, map, take}
use Rattle.leaf_names.specs.Leaves.{items_leaves, fresh_leaves}
use Rattle.leaf_names.proofs.leaves.+write.Given as goal

abbrev pub invariant-loop-item : goal.invariant-loop-item
invariant-loop-item l = l.out.items ≡ l.initial.out.items ++ items_leaves (map (fresh_leaves l.g) l.children) (take l.item-index l.item-items)

abbrev pub decreases-write : goal.decreases-write
decreases-write l = goal.size-write l
