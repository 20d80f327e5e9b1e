use Rattle.std.proofs.Common.{length, arith}
use Rattle.step_chain.proofs.OrderLaws.{few_tried}
use Rattle.step_chain.proofs.orders.first_fit.Goals as goal

pub returns-clause-first : goal.returns-clause-first
returns-clause-first c = λ j o e. absurd (omega (arith, few_tried c.args.places.now (length c.args.hyps.now) c.loop.counter _ c.loop.invariant.at, c.loop-test.false))
