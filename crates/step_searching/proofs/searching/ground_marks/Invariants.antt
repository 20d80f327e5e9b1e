use Rattle.std.proofs.Common.{◌≡◌, take, map}
use Rattle.written_steps.specs.Drafts.{refs}
use Rattle.step_searching.specs.Searched.{is_ground_step}
use Rattle.step_searching.proofs.searching.ground_marks.Given as goal

abbrev pub invariant-loop-step : goal.invariant-loop-step
invariant-loop-step l = l.marks.items ≡ map is_ground_step (refs (take l.step-index l.steps))
