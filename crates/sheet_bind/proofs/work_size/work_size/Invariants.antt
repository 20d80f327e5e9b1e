use Rattle.std.proofs.Common.{◌≡◌, ◌-◌, ◌^◌, min, sum, map, take}
use Rattle.sheet_bind.specs.Sizes.{size_in}
use Rattle.sheet_bind.proofs.work_size.work_size.Given as goal

abbrev pub invariant-loop-step : goal.invariant-loop-step
invariant-loop-step l = l.size ≡ min (sum (map (size_in l.db l.place) (take l.step-index l.steps))) (2 ^ 64 - 1)
