use Rattle.std.proofs.Common.{sym, subst, length}
use Rattle.step_chain.specs.Grown.{AreWorksIn}
use Rattle.step_chain.proofs.ChainLaws.{sound_of}
use Rattle.step_chain.proofs.chain.Chain.trees.Goals as goal

pub of-requires-clause-solved : goal.of-requires-clause-solved
of-requires-clause-solved c = (sound_of _ c.self.invariant).solved

pub of-requires-clause-works : goal.of-requires-clause-works
of-requires-clause-works c = subst (AreWorksIn (length c.self.inside.arena.nodes)) (sym c.as_slice.ensures) (sound_of _ c.self.invariant).works_in
