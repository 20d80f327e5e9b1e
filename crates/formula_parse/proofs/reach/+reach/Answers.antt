use Rattle.std.proofs.Common.{rules, get_or, ◌≡◌, ℕ, ◌-◌, length, take, drop, subst, sym, ap, ◌∙◌, Some}
use Rattle.std.proofs.lemmas.Option.{slice_get-get_or}
use Rattle.std.proofs.lemmas.Result.{IfOk-weaker}
use Rattle.mm_model.specs.declared.rows.Item.TheVariants.{Const, Slot}
use Rattle.formula_parse.specs.Charts.{IsIn, IsEntry, Reaches}
use Rattle.formula_parse.proofs.Lists.{can_of}
use Rattle.formula_parse.proofs.Places.{cons_of}
use Rattle.formula_parse.proofs.reach.+reach.Goals as goal

pub returns : goal.returns
returns t c =
    let items = c.args.items.now in
    let slot = slice_get-get_or c.args.slots.now c.in-Slot.k c.in-Some.code.now c.in-Some.ensures.lookup.3.0 ∙ ap (λ x. Some x) (sym c.in-Some.ensures.lookup.1) in
    let first : get_or c.args.items.now 0 (Const record { 0 = 0 }) ≡ Slot c.in-Slot.k = search rules in
    let split = cons_of items (Const record { 0 = 0 }) (Slot c.in-Slot.k) c.in-Slot.len_at_least first in
    let next = c.in_ok-next-in-Some.ensures in
    IfOk-weaker c.reach-in-Some.result
    (λ ends. (q e : ℕ) → IsIn c.in_ok-next-in-Some.next.items q → Reaches c.args.leaves.now c.args.chart.now c.args.slots.now (take (length items - 1) (drop 1 items)) q e → IsIn ends.items e)
    (λ ends. (q e : ℕ) → IsIn c.args.places.items q → Reaches c.args.leaves.now c.args.chart.now c.args.slots.now items q e → IsIn ends.items e)
    (λ ends h q e i r.
    let at = subst (λ xs. Reaches c.args.leaves.now c.args.chart.now c.args.slots.now xs q e) split r in
    let same : at.1 ≡ c.in-Some.code.now = (let a = sym at.2 ∙ slot in cc) in
    h at.0 e
    (next q at.0 (subst (λ xs. IsIn xs q) (sym c.deref-in-Some.ensures.value) i) (subst (λ d. IsEntry c.args.chart.now q at.0 d) same at.3)
    (can_of c.args.leaves.now c.args.chart.now c.args.slots.now
    (take (length items - 1) (drop 1 items)) at.0 e at.4)) at.4) c.reach-in-Some.ensures
