use Rattle.std.proofs.Common.{sym, ◌∙◌}
use Rattle.distinct_vars.proofs.UseLaws.{first_none, first_some, first_end}
use Rattle.distinct_vars.proofs.clashes.first_pair.Goals as goal

pub returns-in-Some : goal.returns-in-Some
returns-in-Some c =
    sym (c.loop-pair.invariant ∙ first_some c.args.vars.now c.args.trees.now c.args.pairs.now c.loop-pair.pair-index (record { a = record { 0 = 0 }; b = record { 0 = 0 } })
    c.in-Some.shared c.loop-pair-test.true c.in-Some.ensures)

pub returns : goal.returns
returns c = sym (c.loop-pair.invariant ∙ first_end c.args.vars.now c.args.trees.now c.args.pairs.now c.loop-pair.pair-index c.loop-pair-test.false)

pub loop-pair-preserved : goal.loop-pair-preserved
loop-pair-preserved c =
    c.loop-pair.invariant ∙ first_none c.args.vars.now c.args.trees.now c.args.pairs.now c.loop-pair.pair-index (record { a = record { 0 = 0 }; b = record { 0 = 0 } })
    c.loop-pair-test.true c.in_default.ensures
