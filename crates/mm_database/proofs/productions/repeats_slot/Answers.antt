use Rattle.std.proofs.Common.{◌≡◌, ◌-◌, take, drop, length, sym, ◌∙◌}
use Rattle.mm_model.specs.Names.{sym as symbol}
use Rattle.mm_model.specs.declared.rows.Item.TheVariants.{Const}
use Rattle.mm_model.specs.Rows.{slot_order}
use Rattle.mm_model.specs.Productions.{has_repeats}
use Rattle.mm_database.proofs.Repeats.{slot_repeated, slot_new}
use Rattle.mm_database.proofs.productions.repeats_slot.Goals as goal

pub returns-then-has_slot : goal.returns-then-has_slot
returns-then-has_slot c =
    let left = c.loop-left.left.now in
    let so_far : has_repeats (slot_order c.args.items.now) ≡ has_repeats (slot_order left) = c.loop-left.invariant in
    sym (so_far ∙ slot_repeated left (Const (symbol 0)) c.in-Slot.slot c.in-len1-up.len_at_least c.in-Slot.is (sym c.has_slot.ensures ∙ c.if-has_slot.true))

pub loop-left-preserved-else-has_slot : goal.loop-left-preserved-else-has_slot
loop-left-preserved-else-has_slot c =
    let left = c.loop-left.left.now in
    let so_far : has_repeats (slot_order c.args.items.now) ≡ has_repeats (slot_order left) = c.loop-left.invariant in
    let next : has_repeats (slot_order c.args.items.now) ≡ has_repeats (slot_order (take (length left - 1) (drop 1 left))) =
    so_far ∙ slot_new left (Const (symbol 0)) c.in-Slot.slot c.in-len1-up.len_at_least c.in-Slot.is (sym c.has_slot.ensures ∙ c.if-has_slot.false) in
    next
