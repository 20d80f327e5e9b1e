use Rattle.std.proofs.Common.{◌≡◌, map, take}
use Rattle.written_steps.specs.declared.draft.DraftStep.{DraftStep as StepOf}
use Rattle.written_steps.specs.Drafts.{refs}
use Rattle.sheet_unify.proofs.keeping.copies.Given as goal

abbrev pub invariant-loop-step : goal.invariant-loop-step
invariant-loop-step l = l.trees.items ≡ map (λ (s : StepOf). s.tree) (refs (take l.step-index l.steps))
