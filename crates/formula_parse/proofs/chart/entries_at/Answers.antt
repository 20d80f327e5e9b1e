use Rattle.std.proofs.Common.{rules, ◌≡◌, ◌<◌, slice_get, Some, sym, arith, length, subst}
use Rattle.std.proofs.lemmas.Option.{slice_get_within}
use Rattle.formula_parse.proofs.Grows.{begun_grow, followed_turn}
use Rattle.formula_parse.specs.Charts.{IsFilled}
use Rattle.formula_parse.proofs.chart.entries_at.Goals as goal
use Rattle.formula_parse.proofs.chart.entries_at.Goals.{else-loop-k-test, then-loop-k-test+then-k-len}

pub loop-k-preserved : goal.loop-k-preserved
loop-k-preserved c =
    let xs = c.loop-k.entries in
    let ys = c.follow.new.entries in
    let n = c.loop-k.k in
    let s = c.in_ok-follow.ensures in
    let l : n < length xs = omega arith in
    let x = c.entry_at-entry.result in
    let at : slice_get xs n ≡ Some x = search rules in (
      begun_grow c.args.leaves.now c.args.chart.now c.args.g.now c.args.before c.args.begin xs ys s.stays s.once c.loop-k.invariant.0,
      (let m = slice_get_within ys n x (s.stays n x at) in omega (arith, m)),
      followed_turn c.args.leaves.now c.args.chart.now c.args.g.now c.args.before n x xs ys s.stays l at s.followed c.loop-k.invariant.2,
    )

pub returns : goal.returns
returns c =
    let i = c.loop-k.invariant in
    let xs = c.loop-k.entries in
    subst (IsFilled c.args.leaves.now c.args.chart.now c.args.g.now c.args.before c.args.begin) (sym c.into_list.ensures.same)
    (record {
      begun = i.0;
      by_slot =
          λ j x at. i.2 j x
          (let l = slice_get_within xs j x at in
          elim c.loop-k-test.branch [
            | else-loop-k-test w ↦ omega
                (arith, l, w.loop-k-test.false, c.into_list.ensures.small)
            | then-loop-k-test+then-k-len w ↦ omega
                (arith, l, w.if-k-len.true, w.len.ensures)
          ]) at;
    })
