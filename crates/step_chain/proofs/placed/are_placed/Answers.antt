use Rattle.std.proofs.Common.{ap, ◌∙◌, length, List}
use Rattle.std.specs.List.{list_all}
use Rattle.solve_model.specs.declared.bound.BoundStep.{BoundStep}
use Rattle.step_chain.specs.Steps.{step_placed}
use Rattle.step_chain.proofs.PlacedLaws.{placed_is}
use Rattle.step_chain.proofs.placed.are_placed.Goals as goal

pub returns : goal.returns
returns c = placed_is c.args.bound.now c.steps_placed.result (c.steps_placed.ensures ∙ ap (λ (ss : List BoundStep). list_all (step_placed (length ss)) ss) c.as_slice-steps.ensures)
