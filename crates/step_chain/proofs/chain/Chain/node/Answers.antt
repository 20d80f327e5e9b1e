use Rattle.step_chain.proofs.ChainLaws.{node_within}
use Rattle.step_chain.proofs.chain.Chain.node.Goals as goal

pub returns-clause-within : goal.returns-clause-within
returns-clause-within c = node_within _ c.args.self.now c.self.view_is c.self.invariant c.as_slice.result.now c.args.i c.as_slice.ensures c.requires
