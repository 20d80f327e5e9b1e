use Rattle.std.proofs.Common.{◌≡◌, take}
use Rattle.step_chain.specs.Grown.{IsGrown}
use Rattle.step_chain.specs.Formulas.{begun, with_steps, blank_nodes}
use Rattle.step_chain.proofs.formulas.add_all_unknowns.Given as goal

abbrev pub invariant-loop-step : goal.invariant-loop-step
invariant-loop-step l = record {
  is_begun : begun l.arena l.works ≡ with_steps l.logic (begun l.fn.arena l.fn.works) (take l.step-index l.steps);
  nodes_are : l.nodes.items ≡ blank_nodes l.logic (begun l.fn.arena l.fn.works) (take l.step-index l.steps);
  grown : IsGrown l.fn.arena l.arena;
}
