use Rattle.std.proofs.Common.{length, sym, ◌∙◌}
use Rattle.std.proofs.lemmas.Bool.{eqb-true}
use Rattle.std.proofs.lemmas.Result.{on_ok_weaker}
use Rattle.formula_parse.specs.Charts.{EntersFirst}
use Rattle.formula_parse.proofs.Begun.{follows_from}
use Rattle.formula_parse.proofs.Leading.{follows_none}
use Rattle.formula_parse.proofs.chart.follow.Goals as goal

pub returns-clause-followed : goal.returns-clause-followed
returns-clause-followed c =
    on_ok_weaker c.enter_first.result
    (λ (h : EntersFirst c.args.leaves.now c.args.chart.now c.args.g.now c.args.before c.args.entry.code.0 c.args.entry.end c.enter_first.new.entries).
    follows_from c.args.leaves.now c.args.chart.now c.args.g.now c.args.before c.args.entry.end c.args.entry c.enter_first.new.entries h) c.enter_first.ensures.entered

pub returns-then-is_empty-clause-followed : goal.returns-then-is_empty-clause-followed
returns-then-is_empty-clause-followed c =
    follows_none c.args.leaves.now c.args.chart.now c.args.g.now c.args.before c.args.entry c.args.entries.now c.rows_by_slot.result.now c.rows_by_slot.ensures
    (eqb-true (length c.rows_by_slot.result.now) 0 (sym c.is_empty.ensures ∙ c.if-is_empty.true))
