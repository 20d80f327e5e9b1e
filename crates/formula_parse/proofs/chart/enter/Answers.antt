use Rattle.std.proofs.Common.{sym, ◌∙◌}
use Rattle.std.proofs.lemmas.Option.{none-some}
use Rattle.formula_parse.specs.Ends.{IsReached}
use Rattle.formula_parse.proofs.Grows.{enters_from}
use Rattle.formula_parse.proofs.chart.enter.Goals as goal

pub returns-in_ok-add_reached-clause-entered : goal.returns-in_ok-add_reached-clause-entered
returns-in_ok-add_reached-clause-entered c =
    let p = c.in-Some.production.now in
    let at = sym c.in-Some.ensures in
    enters_from c.args.leaves.now c.args.chart.now c.args.g.now c.args.row c.args.place _ p c.as_slice.result.now c.as_slice-in-len1-up.result.now
    (IsReached c.in_ok-reached.reached) at c.as_slice.ensures c.as_slice-in-len1-up.ensures c.in_ok-reached.ensures
    c.in_ok-add_reached.ensures.stand

pub returns-in_default-clause-entered : goal.returns-in_default-clause-entered
returns-in_default-clause-entered c = λ r first rest e at is reach. absurd (none-some r (c.in_default.ensures ∙ at))
