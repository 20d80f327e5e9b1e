use Rattle.std.proofs.Common.{◌≡◌, ◌<◌, ℕ, slice_get, Some}
use Rattle.formula_parse.proofs.entries.is_later.Given as goal

abbrev pub invariant-loop-place : goal.invariant-loop-place
invariant-loop-place l = (j i : ℕ) → j < l.place-index → slice_get l.places j ≡ Some i → slice_get l.items i ≡ Some l.entry → ⊥
