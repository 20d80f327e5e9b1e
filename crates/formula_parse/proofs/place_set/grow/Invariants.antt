use Rattle.std.proofs.Common.{◌≡◌, ◌+◌, ◌-◌, ℕ, true, slice_get, Some, vec_len}
use Rattle.formula_parse.proofs.place_set.grow.Given as goal

abbrev pub invariant-loop-marks : goal.invariant-loop-marks
invariant-loop-marks l = (p : ℕ) → slice_get l.marks.items p ≡ Some true → slice_get l.initial.marks.items p ≡ Some true

abbrev pub decreases-loop-marks : goal.decreases-loop-marks
decreases-loop-marks l = l.place + 1 - vec_len l.marks
