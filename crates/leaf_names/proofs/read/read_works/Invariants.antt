use Rattle.std.proofs.Common.{take}
use Rattle.std.specs.List.{flat_map}
use Rattle.leaf_names.specs.Tables.{AreRead, step_leaves}
use Rattle.leaf_names.proofs.read.read_works.Given as goal

abbrev pub invariant-loop-step : goal.invariant-loop-step
invariant-loop-step l = AreRead (flat_map (step_leaves l.g) (take l.step-index l.step-items)) l.read.keys
