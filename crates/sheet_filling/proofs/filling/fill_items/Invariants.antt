use Rattle.sheet_filling.specs.Filled.{AreFilledTo}
use Rattle.sheet_filling.proofs.filling.fill_items.Given as goal

abbrev pub invariant-loop-item : goal.invariant-loop-item
invariant-loop-item l = AreFilledTo l.db l.written l.fn.items.items l.item-iterator.rest.items l.filled.items l.number
