use Rattle.std.proofs.Common.{◌≡◌, length}
use Rattle.mm_model.specs.Rows.{slot_order}
use Rattle.mm_model.specs.Productions.{has_repeats}
use Rattle.mm_database.proofs.productions.repeats_slot.Given as goal

abbrev pub invariant-loop-left : goal.invariant-loop-left
invariant-loop-left l = has_repeats (slot_order l.items) ≡ has_repeats (slot_order l.left)

abbrev pub decreases-loop-left : goal.decreases-loop-left
decreases-loop-left l = length l.left
