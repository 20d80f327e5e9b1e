use Rattle.std.proofs.Common.{arith, ◌-◌}
use Rattle.stack_verify.proofs.Leasts.{one_more}
use Rattle.stack_verify.proofs.pairs.least_failing.Goals as goal

pub loop-left-preserved : goal.loop-left-preserved
loop-left-preserved c = record {
  within = omega arith;
  least =
      one_more c.args.known.now c.args.rule c.args.firsts.now c.args.seconds.now
      (c.loop-left.left - 1) c.loop-left.left _ c.loop-left.best c.least_with-best.result (omega arith)
      (omega arith) c.least_with-best.ensures c.loop-left.invariant.least;
}
