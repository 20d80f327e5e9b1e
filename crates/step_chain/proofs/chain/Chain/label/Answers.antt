use Rattle.std.proofs.Common.{subst, refl}
use Rattle.step_chain.specs.Held.{IsHeld}
use Rattle.step_chain.proofs.AnswerLaws.{label_told}
use Rattle.step_chain.proofs.chain.Chain.label.Goals as goal

pub returns : goal.returns
returns c = label_told c.args.self.now (subst IsHeld c.self.view_is c.self.invariant) c.args.i c.accepted.result.now c.accepted.ensures c.accepted.result.now.label refl
