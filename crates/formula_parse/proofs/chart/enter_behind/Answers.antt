use Rattle.std.proofs.Common.{List, arith, get_or}
use Rattle.std.proofs.lemmas.Option.{slice_get_within, slice_get-get_or}
use Rattle.formula_parse.specs.declared.reach.Entry.{Entry}
use Rattle.formula_parse.specs.Charts.{EntersNext, entry_of}
use Rattle.formula_parse.proofs.Grows.{grown_turn}
use Rattle.formula_parse.proofs.Leading.{next_grow}
use Rattle.formula_parse.proofs.chart.enter_behind.Goals as goal

pub loop-start-preserved : goal.loop-start-preserved
loop-start-preserved c =
    let starts = c.args.starts.now in
    let rows = c.args.g.now in
    let n = c.loop-start.start-index in
    let none = entry_of 0 record { 0 = record { 0 = 0 } } 0 in
    let x = get_or starts n none in
    let at = slice_get-get_or starts n none (omega (arith, c.loop-start-test.true)) in
    let s = c.in_ok-enter_next.ensures in
    grown_turn starts (λ x. Unit {0}) (λ (x : Entry) (ys : List Entry). EntersNext c.args.leaves.now c.args.chart.now rows c.args.before c.args.first c.args.place x.end ys)
    (λ x xs ys. next_grow c.args.leaves.now c.args.chart.now rows c.args.before c.args.first c.args.place x.end xs ys)
    c.args.entries.now c.loop-start.entries c.enter_next.new.entries n x at s.stays s.once (λ q. s.entered) c.loop-start.invariant

pub returns-clause-entered : goal.returns-clause-entered
returns-clause-entered c = λ j x at. c.loop-start.invariant.2 j x (omega (arith, slice_get_within c.args.starts.now j x at, c.loop-start-test.false)) at tt
