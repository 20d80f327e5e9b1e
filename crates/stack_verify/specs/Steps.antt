-- The steps, where the labels have been looked up. This is part of the proof, and not of the claim.
use Rattle.std.specs.Prelude.{◌≡◌, ℕ, true, List, Option, Some, Result, Err}
use Rattle.proof_model.specs.Machine.{MachineFault, Entry, State, underflow, type_differs, not_earlier, result_differs, unknown, hyp_differs, shared}
use Rattle.proof_model.specs.Machine.{not_distinct, left_over, substituted, differs_in_formula}
use Rattle.stack_verify.specs.declared.fault.StepFault.{StepFault}
use Rattle.stack_verify.specs.declared.fault.StepFault.TheVariants as step
use Rattle.stack_verify.specs.declared.fault.ProofFault.{ProofFault}
use Rattle.stack_verify.specs.declared.fault.ProofFault.TheVariants as faults

-- the error is want of memory, or this fault of a step
abbrev pub FailsAs : StepFault → Option MachineFault → Type 0
FailsAs step.Memory fault = Unit {0}
FailsAs step.Underflow fault = fault ≡ Some underflow
FailsAs step.TypeDiffers fault = fault ≡ Some type_differs
FailsAs (step.HypDiffers expected found) fault = fault ≡ Some (hyp_differs expected found)
FailsAs (step.Shared x y v) fault = fault ≡ Some (shared x y v)
FailsAs (step.NotDistinct v w) fault = fault ≡ Some (not_distinct v w)
FailsAs step.NotEarlier fault = fault ≡ Some not_earlier
FailsAs step.Unknown fault = fault ≡ Some unknown

-- the same of the state behind a step
abbrev pub FailsWith : StepFault → Result State MachineFault → Type 0
FailsWith step.Memory read = Unit {0}
FailsWith step.Underflow read = read ≡ Err underflow
FailsWith step.TypeDiffers read = read ≡ Err type_differs
FailsWith (step.HypDiffers expected found) read = read ≡ Err (hyp_differs expected found)
FailsWith (step.Shared x y v) read = read ≡ Err (shared x y v)
FailsWith (step.NotDistinct v w) read = read ≡ Err (not_distinct v w)
FailsWith step.NotEarlier read = read ≡ Err not_earlier
FailsWith step.Unknown read = read ≡ Err unknown

-- the same of a run
abbrev pub RunFails : ProofFault → Result State (ℕ × MachineFault) → Type 0
RunFails faults.Memory read = Unit {0}
RunFails (faults.Underflow i) read = read ≡ Err (i, underflow)
RunFails (faults.TypeDiffers i) read = read ≡ Err (i, type_differs)
RunFails (faults.HypDiffers i expected found) read = read ≡ Err (i, hyp_differs expected found)
RunFails (faults.Shared i x y v) read = read ≡ Err (i, shared x y v)
RunFails (faults.NotDistinct i v w) read = read ≡ Err (i, not_distinct v w)
RunFails (faults.NotEarlier i) read = read ≡ Err (i, not_earlier)
RunFails (faults.LeftOver i n) read = read ≡ Err (i, left_over n)
RunFails (faults.ResultDiffers i) read = read ≡ Err (i, result_differs)
RunFails (faults.Unknown i) read = read ≡ Err (i, unknown)

-- the error is want of memory, or that an entry is not the substituted hypothesis
abbrev pub IsHypFault : List Entry → Entry → StepFault → Type 0
IsHypFault entries entry step.Memory = Unit {0}
IsHypFault entries entry (step.HypDiffers expected found) = (differs_in_formula entries entry ≡ true) × (expected ≡ substituted entries entry.0.formula) × (found ≡ entry.1)
IsHypFault entries entry _ = ⊥
