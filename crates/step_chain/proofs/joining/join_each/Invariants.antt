use Rattle.std.proofs.Common.{take}
use Rattle.term_model.specs.Store.{IsSolved}
use Rattle.chain_laws.specs.Layout.{Joins}
use Rattle.step_chain.specs.Joined.{pairs_of, KeepsNodes}
use Rattle.step_chain.proofs.joining.join_each.Given as goal

abbrev pub invariant-loop-pair : goal.invariant-loop-pair
invariant-loop-pair l = record {
  kept : KeepsNodes l.fn.arena l.arena;
  solved : IsSolved l.arena.nodes l.arena.links;
  joined : Joins l.fn.arena.nodes l.fn.arena.links l.arena.links (pairs_of (take l.pair-index l.pairs));
}
