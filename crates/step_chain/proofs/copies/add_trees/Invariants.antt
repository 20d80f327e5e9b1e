use Rattle.std.proofs.Common.{map, take, length}
use Rattle.chain_laws.specs.Adding.{added, run}
use Rattle.step_chain.specs.Grown.{IsGrown, AreListed, AreWorksIn, AreVariablesIn, AreIdsIn}
use Rattle.step_chain.proofs.copies.add_trees.Given as goal

abbrev pub invariant-loop-tree : goal.invariant-loop-tree
invariant-loop-tree l = record {
  listed : AreListed (run (map (added l.grammar l.works l.variables) (take l.tree-index l.trees)) l.fn.arena.nodes) l.arena.nodes l.ids.items;
  grown : IsGrown l.fn.arena l.arena;
  works_in : AreWorksIn (length l.arena.nodes) l.works;
  variables_in : AreVariablesIn (length l.arena.nodes) l.variables;
  inside : AreIdsIn (length l.arena.nodes) l.ids.items;
}
