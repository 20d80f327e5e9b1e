-- The errors of the verifier as the faults of the stack machine.
use Rattle.std.specs.Prelude.{◌≡◌, ℕ, Option, Some}
use Rattle.proof_model.specs.Machine.{MachineFault, underflow, type_differs, not_earlier, result_differs, unknown, hyp_differs, shared, not_distinct, left_over}
use Rattle.stack_verify.specs.declared.fault.ProofFault.{ProofFault}
use Rattle.stack_verify.specs.declared.fault.ProofFault.TheVariants as faults

-- the error is want of memory, or this first fault, with the number of its step and what is told of it
abbrev pub IsFault : ProofFault → Option (ℕ × MachineFault) → Type 0
IsFault faults.Memory first = Unit {0}
IsFault (faults.Underflow i) first = first ≡ Some (i, underflow)
IsFault (faults.TypeDiffers i) first = first ≡ Some (i, type_differs)
IsFault (faults.HypDiffers i expected found) first = first ≡ Some (i, hyp_differs expected found)
IsFault (faults.Shared i x y v) first = first ≡ Some (i, shared x y v)
IsFault (faults.NotDistinct i v w) first = first ≡ Some (i, not_distinct v w)
IsFault (faults.NotEarlier i) first = first ≡ Some (i, not_earlier)
IsFault (faults.LeftOver i n) first = first ≡ Some (i, left_over n)
IsFault (faults.ResultDiffers i) first = first ≡ Some (i, result_differs)
IsFault (faults.Unknown i) first = first ≡ Some (i, unknown)
