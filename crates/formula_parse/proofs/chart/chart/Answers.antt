use Rattle.std.proofs.Common.{◌≡◌, ◌<◌, ◌+◌, ◌-◌, length, slice_set, subst, arith, List}
use Rattle.formula_parse.specs.declared.reach.Entry.{Entry}
use Rattle.formula_parse.specs.Charts.{IsChart, IsFilled}
use Rattle.formula_parse.proofs.Steps.{chart_step}
use Rattle.formula_parse.proofs.chart.chart.Goals as goal

pub loop-k-preserved : goal.loop-k-preserved
loop-k-preserved c =
    let rows = c.args.g.now in
    let leaves = c.args.leaves.now in
    let k = c.loop-k.k in
    let b = length leaves - 1 - k in
    let chart = c.loop-k.chart.items in
    let entries = c.in_ok-entries.entries in
    let l : k < length leaves = omega (arith, c.loop-k-test.true) in
    let later : length leaves - k ≡ b + 1 = omega (arith, l) in
    let here : b ≡ length leaves - (k + 1) = omega arith in
    let full = subst (λ p. IsChart rows c.args.before leaves p chart) later c.loop-k.invariant in
    let filled = subst (λ (xs : List (List Entry)). IsFilled leaves xs rows c.args.before b entries) c.deref.ensures.value c.in_ok-entries.ensures in
    subst (λ p. IsChart rows c.args.before leaves p (slice_set chart b entries)) here
    (chart_step rows c.args.before leaves c.requires.rows_hold chart b entries (omega (arith, l)) full filled)
