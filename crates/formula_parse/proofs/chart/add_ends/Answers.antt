use Rattle.std.proofs.Common.{arith, get_or}
use Rattle.std.proofs.lemmas.Option.{slice_get_within, slice_get-get_or}
use Rattle.formula_parse.specs.Charts.{IsIn, entry_of}
use Rattle.formula_parse.proofs.Lists.{stays_then, stays_in, at_turn}
use Rattle.formula_parse.proofs.chart.add_ends.Goals as goal

pub loop-end-preserved : goal.loop-end-preserved
loop-end-preserved c =
    let xs = c.loop-end.entries in
    let ys = c.add.new.self in
    let s = c.in_ok-add.ensures in (
      stays_then c.args.entries.now xs ys c.loop-end.invariant.0 s.stays,
      (λ once. s.once (c.loop-end.invariant.1 once)),
      at_turn (λ e. IsIn ys (entry_of e c.args.production.now.gives c.args.row)) c.args.ends.now c.loop-end.end-index
          (get_or c.args.ends.now c.loop-end.end-index 0)
          (slice_get-get_or c.args.ends.now c.loop-end.end-index 0 (omega (arith, c.loop-end-test.true)))
          (λ j e i at. stays_in xs ys s.stays (entry_of e c.args.production.now.gives c.args.row) (c.loop-end.invariant.2 j e i at)) s.stands,
    )

pub returns-clause-stand : goal.returns-clause-stand
returns-clause-stand c = λ e i. c.loop-end.invariant.2 i.0 e (omega (arith, slice_get_within c.args.ends.now i.0 e i.1, c.loop-end-test.false)) i.1
