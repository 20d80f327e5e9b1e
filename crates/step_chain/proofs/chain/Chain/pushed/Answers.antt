use Rattle.std.proofs.Common.{ap, length, ◌∙◌}
use Rattle.step_chain.proofs.ChainLaws.{pushed_count, pushed_judged}
use Rattle.step_chain.proofs.ValueLaws.{chain_valuation}
use Rattle.step_chain.proofs.chain.Chain.pushed.Goals as goal

pub returns-clause-count : goal.returns-clause-count
returns-clause-count c = pushed_count _ c.args.self.now c.self.view_is c.self.invariant c.count.result (c.count.ensures ∙ ap length c.as_slice.ensures.value)

pub returns-clause-judged : goal.returns-clause-judged
returns-clause-judged c = pushed_judged _ c.args.self.now c.self.view_is c.self.invariant

pub returns-clause-valuation : goal.returns-clause-valuation
returns-clause-valuation c = chain_valuation _ c.args.self.now c.self.view_is c.self.invariant
