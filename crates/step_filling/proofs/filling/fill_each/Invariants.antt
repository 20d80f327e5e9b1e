use Rattle.std.proofs.Common.{take}
use Rattle.step_filling.specs.Filled.{ArePut}
use Rattle.step_filling.proofs.filling.fill_each.Given as goal

abbrev pub invariant-loop-item : goal.invariant-loop-item
invariant-loop-item l = ArePut l.trees l.initial.filling l.filling (take l.item-index l.items)
