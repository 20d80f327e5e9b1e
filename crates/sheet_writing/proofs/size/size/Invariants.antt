use Rattle.std.proofs.Common.{◌≡◌, ◌-◌, ◌^◌, min, sum, map, take}
use Rattle.sheet_writing.specs.Sizes.{item_size_in}
use Rattle.sheet_writing.proofs.size.size.Given as goal

abbrev pub invariant-loop-item : goal.invariant-loop-item
invariant-loop-item l = l.size ≡ min (sum (map (item_size_in l.db l.place) (take l.item-index l.items))) (2 ^ 64 - 1)
