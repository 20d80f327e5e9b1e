use Rattle.std.proofs.Common.{rules, get_or, ◌≡◌, ℕ, ◌-◌, length, take, drop, subst, sym, ap, ◌∙◌, Some}
use Rattle.std.proofs.lemmas.Option.{slice_get-get_or}
use Rattle.std.proofs.lemmas.Result.{IfOk-weaker}
use Rattle.mm_model.specs.declared.rows.Item.TheVariants.{Const, Slot}
use Rattle.formula_parse.specs.Charts.{Reaches}
use Rattle.formula_parse.specs.Ends.{IsAmong, IsReached}
use Rattle.formula_parse.proofs.Slots.{slot_among}
use Rattle.formula_parse.proofs.Places.{cons_of}
use Rattle.formula_parse.proofs.reach.+reach_from.Goals as goal

pub returns-in-Nowhere : goal.returns-in-Nowhere
returns-in-Nowhere t c =
    let items = c.args.items.now in
    let slot = slice_get-get_or c.args.slots.now c.in-Slot.k c.in-Some.code.now c.in-Some.ensures.lookup.3.0 ∙ ap (λ x. Some x) (sym c.in-Some.ensures.lookup.1) in
    let first : get_or c.args.items.now 0 (Const record { 0 = 0 }) ≡ Slot c.in-Slot.k = search rules in
    let split = cons_of items (Const record { 0 = 0 }) (Slot c.in-Slot.k) c.in-Slot.len_at_least first in
    λ e r.
    let at =
    slot_among c.args.leaves.now c.args.chart.now c.args.slots.now items
    (take (length items - 1)
    (drop 1 items)) c.in-Slot.k c.in-Some.code.now c.args.place e c.ends_from.result split slot c.ends_from.ensures r in
    absurd (subst (λ ends. IsAmong ends at.0) c.in-Nowhere.is at.1)

pub returns-in-Only : goal.returns-in-Only
returns-in-Only t c =
    let items = c.args.items.now in
    let rest = take (length items - 1) (drop 1 items) in
    let slot = slice_get-get_or c.args.slots.now c.in-Slot.k c.in-Some.code.now c.in-Some.ensures.lookup.3.0 ∙ ap (λ x. Some x) (sym c.in-Some.ensures.lookup.1) in
    let first : get_or c.args.items.now 0 (Const record { 0 = 0 }) ≡ Slot c.in-Slot.k = search rules in
    let split = cons_of items (Const record { 0 = 0 }) (Slot c.in-Slot.k) c.in-Slot.len_at_least first in
    IfOk-weaker c.reach_from-in-Only.result
    (λ ends. (e : ℕ) → Reaches c.args.leaves.now c.args.chart.now c.args.slots.now rest c.in-Only.end e → IsReached ends e)
    (λ ends. (e : ℕ) → Reaches c.args.leaves.now c.args.chart.now c.args.slots.now items c.args.place e → IsReached ends e)
    (λ ends h e r.
    let at = slot_among c.args.leaves.now c.args.chart.now c.args.slots.now items rest c.in-Slot.k c.in-Some.code.now c.args.place e c.ends_from.result split slot c.ends_from.ensures r in
    let same : at.0 ≡ c.in-Only.end = subst (λ xs. IsAmong xs at.0) c.in-Only.is at.1 in
    h e (subst (λ m. Reaches c.args.leaves.now c.args.chart.now c.args.slots.now rest m e) same at.2)) c.reach_from-in-Only.ensures
