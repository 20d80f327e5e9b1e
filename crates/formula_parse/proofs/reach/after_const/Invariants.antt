use Rattle.std.proofs.Common.{◌≡◌, ◌<◌, ◌+◌, ℕ, slice_get, Some}
use Rattle.mm_model.specs.declared.rows.Leaf.TheVariants.{Const}
use Rattle.formula_parse.specs.Charts.{IsIn}
use Rattle.formula_parse.proofs.reach.after_const.Given as goal

abbrev pub invariant-loop-place : goal.invariant-loop-place
invariant-loop-place l = (j q : ℕ) → j < l.place-index → slice_get l.places j ≡ Some q → slice_get l.leaves q ≡ Some (Const l.sym) → IsIn l.next.items (q + 1)
