-- The refusals of a worksheet.
use Rattle.std.specs.Prelude.{ℕ, ◌-◌, ◌^◌, min}
use Rattle.mm_model.specs.Faults.{Fault}
use Rattle.mm_model.specs.Names.{Name}

-- a fault of a worksheet, with what is told of it. A number above 2^64 - 1 is told as 2^64 - 1
pub data Refusal : Type 0 where
  at_line : Fault → Refusal
  too_much : ℕ → Refusal
  formula_too_long : Name → ℕ → Refusal
  written_two_trees : Name → Refusal
  too_much_written : ℕ → Refusal
  proof_too_long : ℕ → Refusal
  too_large : ℕ → Refusal

abbrev pub told_number : ℕ → ℕ
told_number n = min n (2 ^ 64 - 1)
