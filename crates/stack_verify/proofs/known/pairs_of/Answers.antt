use Rattle.stack_verify.proofs.Knowing.{pair_put}
use Rattle.stack_verify.proofs.known.pairs_of.Goals as goal

pub loop-pair-preserved : goal.loop-pair-preserved
loop-pair-preserved c = pair_put c.loop-pair.set.keys c.insert.new.self.keys c.args.pairs.now c.loop-pair.pair-index _ c.loop-pair-test.true c.in_ok-insert.ensures.keys c.loop-pair.invariant
