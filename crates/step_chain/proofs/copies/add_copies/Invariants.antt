use Rattle.std.proofs.Common.{◌≡◌, ◌++◌, take, map}
use Rattle.step_chain.specs.Grown.{IsGrown}
use Rattle.step_chain.specs.Copied.{free_at}
use Rattle.step_chain.proofs.copies.add_copies.Given as goal

abbrev pub invariant-loop-variable : goal.invariant-loop-variable
invariant-loop-variable l = record {
  nodes : l.arena.nodes ≡ l.fn.arena.nodes ++ map free_at (take l.variable-index l.variables);
  grown : IsGrown l.fn.arena l.arena;
}
