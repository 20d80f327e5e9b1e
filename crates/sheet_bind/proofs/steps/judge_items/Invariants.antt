use Rattle.std.proofs.Common.{take}
use Rattle.sheet_bind.specs.Judging.{scene_of, state_of, Runs}
use Rattle.sheet_bind.proofs.steps.judge_items.Given as goal

abbrev pub invariant-loop-item : goal.invariant-loop-item
invariant-loop-item l = Runs (scene_of l.here) (state_of l.initial.judging) (take l.item-index l.items) (state_of l.judging)
