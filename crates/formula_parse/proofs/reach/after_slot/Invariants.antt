use Rattle.std.proofs.Common.{◌≡◌, ◌<◌, ℕ, slice_get, Some}
use Rattle.formula_parse.specs.Charts.{IsIn, IsEntry, CanLead}
use Rattle.formula_parse.proofs.reach.after_slot.Given as goal

abbrev pub invariant-loop-place : goal.invariant-loop-place
invariant-loop-place l = (j q m : ℕ) → j < l.place-index → slice_get l.places j ≡ Some q → IsEntry l.chart q m l.code → CanLead l.leaves l.behind m → IsIn l.next m
