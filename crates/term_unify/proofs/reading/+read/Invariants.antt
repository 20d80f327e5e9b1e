use Rattle.std.proofs.Common.{◌≡◌, List, map, take}
use Rattle.mm_base.specs.declared.tree.Tree.{Tree}
use Rattle.mm_base.specs.Trees.{Each}
use Rattle.term_model.specs.Terms.{term_at, children_of}
use Rattle.term_model.specs.Store.{tree_at, trees_at, Solution}
use Rattle.term_unify.specs.Read.{filled, HasFreshOf}
use Rattle.term_unify.proofs.reading.+read.Given as goal

abbrev pub decreases-read : goal.decreases-read
decreases-read l = l.depth

abbrev pub invariant-loop-k : goal.invariant-loop-k
invariant-loop-k l = record {
  reads : (trees : List Tree) → Solution l.arena.nodes l.arena.links trees → map (filled (tree_at trees)) l.trees.items ≡ take l.k (trees_at trees (children_of (term_at l.arena.nodes l.end.0)));
  fresh : Each (HasFreshOf l.arena.nodes l.arena.links) l.trees.items;
}
