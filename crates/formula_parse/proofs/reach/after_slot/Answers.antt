use Rattle.std.proofs.Common.{◌≡◌, ◌<◌, ◌+◌, ℕ, slice_get, Some, ap, sym, ◌∙◌, arith, get_or, subst, List}
use Rattle.std.proofs.lemmas.Option.{slice_get_within, slice_get-get_or, slice_get_past, none-some}
use Rattle.formula_parse.specs.Charts.{IsIn, IsEntry, Stays, CanLead}
use Rattle.formula_parse.proofs.Lists.{stays_in, at_turn}
use Rattle.formula_parse.proofs.reach.after_slot.Goals as goal
use Rattle.formula_parse.proofs.reach.after_slot.Goals.{in-Some+in_ok-add_ends, in_default}

pub loop-place-preserved : goal.loop-place-preserved
loop-place-preserved c =
    let chart = c.args.chart.now in
    let places = c.args.places.now in
    let n = c.loop-place.place-index in
    let p = get_or places n 0 in
    let at = slice_get-get_or places n 0 (omega (arith, c.loop-place-test.true)) in
    let turn = λ (ys : List ℕ) (s : Stays c.loop-place.next ys) (here : (m : ℕ) → IsEntry chart p m c.args.code → CanLead c.args.leaves.now c.args.behind.now m → IsIn ys m).
    λ (j q m : ℕ) (l : j < n + 1) (is : slice_get places j ≡ Some q) (h : IsEntry chart q m c.args.code) (can : CanLead c.args.leaves.now c.args.behind.now m).
    at_turn (λ q. (m : ℕ) → IsEntry chart q m c.args.code → CanLead c.args.leaves.now c.args.behind.now m → IsIn ys m) places n p at
    (λ j q i is m h can. stays_in c.loop-place.next ys s m (c.loop-place.invariant j q m i is h can)) here j q l is m h can in
    elim c.match-get.branch [
      | in-Some+in_ok-add_ends w ↦
          let list = w.in-Some.entries.now in
          let stand = slice_get-get_or chart p list w.in-Some.ensures.lookup.3.0 ∙ ap (λ x. Some x) (sym w.in-Some.ensures.lookup.1) in
          let s = w.in_ok-add_ends.ensures in
          let ys = w.add_ends.new.next in
          let here = λ (m : ℕ) (h : IsEntry chart p m c.args.code) (can : CanLead c.args.leaves.now c.args.behind.now m).
          let same : h.entries ≡ w.as_slice.result.now = (let a = h.stand in let b = stand in let d = w.as_slice.ensures in cc) in
          let found = s.ends h.has.entry (subst (λ xs. IsIn xs h.has.entry) same h.has.is_in) h.has.has_code (subst (CanLead c.args.leaves.now c.args.behind.now) (sym h.has.ends) can) in
          subst (λ k. IsIn ys k) h.has.ends found in
          subst
          (λ v. (j q m : ℕ) → j < n + 1 → slice_get places j ≡ Some q → IsEntry chart q m c.args.code
          → CanLead c.args.leaves.now c.args.behind.now m → IsIn v m)
          (sym w.next-is) (turn ys s.stays here)
      | in_default w ↦
          let none = slice_get_past chart p w.in_default.ensures.lookup.3 in
          subst (λ v. (j q m : ℕ) → j < n + 1 → slice_get places j ≡ Some q → IsEntry chart q m c.args.code → CanLead c.args.leaves.now c.args.behind.now m → IsIn v m) (sym w.next-is)
          (turn c.loop-place.next (λ j x e. e) (λ m h can. absurd (none-some h.entries (sym none ∙ h.stand))))
    ]

pub returns : goal.returns
returns c = λ q m i h can.
    subst (λ xs. IsIn xs m) (sym c.into_vec.ensures)
    (c.loop-place.invariant i.0 q m (omega (arith, slice_get_within c.args.places.now i.0 q i.1, c.loop-place-test.false)) i.1 h can)
