use Rattle.std.proofs.Common.{◌≡◌, ℕ, Some, slice_get, sym, subst}
use Rattle.mm_base.specs.declared.symbols.Typecode.{Typecode}
use Rattle.formula_parse.specs.Charts.{IsIn, IsEntry, EntersNext}
use Rattle.formula_parse.proofs.Grows.{enters_grow}
use Rattle.formula_parse.proofs.Leading.{next_grow, first_entered}
use Rattle.formula_parse.proofs.Lists.{stays_then}
use Rattle.formula_parse.proofs.chart.enter_first.Goals as goal

pub returns-clause-entered : goal.returns-clause-entered
returns-clause-entered c =
    let leaves = c.args.leaves.now in
    let chart = c.args.chart.now in
    let rows = c.args.g.now in
    let before = c.args.before in
    let first = c.args.first in
    let place = c.args.place in
    let xs = c.enter_all.new.entries in
    let ys = c.enter_next.new.entries in
    let zs = c.enter_behind.new.entries in
    let one = c.in_ok-enter_all.ensures in
    let two = c.in_ok-enter_next.ensures in
    let three = c.in_ok-enter_behind.ensures in
    let starts = c.entries_from-starts.result.now in
    first_entered leaves chart rows before first place zs
    (λ j i at is. enters_grow leaves chart rows i place xs zs (stays_then xs ys zs two.stays three.stays) (one.entered j i (subst (λ ns. slice_get ns j ≡ Some i) (sym c.lone_rows.ensures) at) is))
    (next_grow leaves chart rows before first place place ys zs three.stays two.entered)
    (λ (m : ℕ) (code : Typecode) (h : IsEntry chart place m code).
    let x = h.has.entry in
    let stands = subst (λ es. IsIn es x) (sym (c.entries_from-starts.ensures h.entries h.stand)) h.has.is_in in
    subst (λ q. EntersNext leaves chart rows before first place q zs) h.has.ends (three.entered stands.0 x stands.1))

pub returns-clause-once : goal.returns-clause-once
returns-clause-once c = λ o. c.in_ok-enter_behind.ensures.once (c.in_ok-enter_next.ensures.once (c.in_ok-enter_all.ensures.once o))
