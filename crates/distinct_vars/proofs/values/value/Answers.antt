use Rattle.std.proofs.Common.{◌∙◌}
use Rattle.distinct_vars.proofs.UseLaws.{value_passed}
use Rattle.distinct_vars.proofs.values.value.Goals as goal

pub loop-i-preserved : goal.loop-i-preserved
loop-i-preserved c = c.loop-i.invariant ∙ value_passed c.args.vars.now c.args.trees.now c.args.symbol (record { 0 = 0 }) c.loop-i.i c.loop-i-test.true c.if-eq.ensures
