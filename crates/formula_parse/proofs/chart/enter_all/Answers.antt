use Rattle.std.proofs.Common.{◌≡◌, ◌+◌, ℕ, List, slice_get, Some, sym, arith, get_or, subst}
use Rattle.std.proofs.lemmas.Option.{slice_get_within, slice_get-get_or}
use Rattle.formula_parse.specs.declared.reach.Entry.{Entry}
use Rattle.formula_parse.specs.Charts.{Enters, IsStart}
use Rattle.formula_parse.proofs.Consts.{off}
use Rattle.formula_parse.proofs.Grows.{Grown, grown_turn, enters_grow}
use Rattle.formula_parse.proofs.Lists.{stays_refl}
use Rattle.formula_parse.proofs.chart.enter_all.Goals as goal
use Rattle.formula_parse.proofs.chart.enter_all.Goals.{then-is_start+in_ok-enter, else-is_start}

pub loop-number-preserved : goal.loop-number-preserved
loop-number-preserved c =
    let numbers = c.args.numbers.now in
    let rows = c.args.g.now in
    let n = c.loop-number.number-index in
    let i = get_or numbers n 0 in
    let at : slice_get numbers n ≡ Some i = slice_get-get_or numbers n 0 (omega (arith, c.loop-number-test.true)) in
    let Q = IsStart rows c.args.before c.args.first in
    let E = λ (i : ℕ) (ys : List Entry). Enters c.args.leaves.now c.args.chart.now rows i c.args.place ys in
    let mono = λ (i : ℕ) (xs ys : List Entry). enters_grow c.args.leaves.now c.args.chart.now rows i c.args.place xs ys in
    let turn = grown_turn numbers Q E mono c.args.entries.now c.loop-number.entries in
    elim c.if-is_start.branch [
      | then-is_start+in_ok-enter w ↦ subst (λ v. Grown numbers Q E c.args.entries.now (n + 1) v) (sym w.entries-is)
          (turn w.enter.new.entries n i at w.in_ok-enter.ensures.stays w.in_ok-enter.ensures.once (λ q. w.in_ok-enter.ensures.entered) c.loop-number.invariant)
      | else-is_start w ↦ subst (λ v. Grown numbers Q E c.args.entries.now (n + 1) v) (sym w.entries-is)
          (turn c.loop-number.entries n i at (stays_refl c.loop-number.entries) (λ o. o)
          (λ q. absurd (off c.is_start.result (c.is_start.ensures q) w.if-is_start.false)) c.loop-number.invariant)
    ]

pub returns-clause-entered : goal.returns-clause-entered
returns-clause-entered c = λ j i at is. c.loop-number.invariant.2 j i (omega (arith, slice_get_within c.args.numbers.now j i at, c.loop-number-test.false)) at is
