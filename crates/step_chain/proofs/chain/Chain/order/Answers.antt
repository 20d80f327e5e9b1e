use Rattle.std.proofs.Common.{subst, refl}
use Rattle.step_chain.specs.Held.{IsHeld}
use Rattle.step_chain.proofs.AnswerLaws.{order_told}
use Rattle.step_chain.proofs.chain.Chain.order.Goals as goal

pub returns : goal.returns
returns c = order_told c.args.self.now (subst IsHeld c.self.view_is c.self.invariant) c.args.i c.accepted.result.now c.accepted.ensures c.accepted.result.now.order refl
