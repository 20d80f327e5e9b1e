use Rattle.std.proofs.Common.{subst}
use Rattle.step_chain.specs.Held.{IsHeld}
use Rattle.step_chain.proofs.FewLaws.{chain_few}
use Rattle.step_chain.proofs.chain.Chain.arena.Goals as goal

pub returns-clause-few : goal.returns-clause-few
returns-clause-few c = chain_few _ c.args.self.now c.self.view_is c.self.invariant

pub returns-clause-held : goal.returns-clause-held
returns-clause-held c = subst IsHeld c.self.view_is c.self.invariant
