-- The reader's errors as faults of the definitions.
use Rattle.std.specs.Prelude.{◌≡◌, Option, Some}
use Rattle.mm_model.specs.Faults.{Fault, fault}
use Rattle.mm_frames.specs.declared.fault.ReadFault.{ReadFault}
use Rattle.mm_frames.specs.declared.fault.ReadFault.TheVariants as faults

-- the error is want of memory, or this first fault
abbrev pub IsFault : ReadFault → Option Fault → Type 0
IsFault faults.Memory first = Unit {0}
IsFault (faults.Include at) first = first ≡ Some (fault at 10)
IsFault (faults.ConstInBlock at) first = first ≡ Some (fault at 11)
IsFault (faults.Redeclared at) first = first ≡ Some (fault at 12)
IsFault (faults.NotActive at) first = first ≡ Some (fault at 13)
IsFault (faults.NoType at) first = first ≡ Some (fault at 14)
IsFault (faults.TwoTypes at) first = first ≡ Some (fault at 15)
IsFault (faults.FirstNotConst at) first = first ≡ Some (fault at 16)
IsFault (faults.LabelTaken at) first = first ≡ Some (fault at 17)
IsFault (faults.LabelMissing at) first = first ≡ Some (fault at 18)
IsFault (faults.LabelExtra at) first = first ≡ Some (fault at 19)
IsFault (faults.BadLabel at) first = first ≡ Some (fault at 20)
IsFault (faults.Unended at) first = first ≡ Some (fault at 21)
IsFault (faults.BlockOpen at) first = first ≡ Some (fault at 22)
IsFault (faults.BlockUnopened at) first = first ≡ Some (fault at 23)
IsFault (faults.DistinctShort at) first = first ≡ Some (fault at 24)
IsFault (faults.DistinctTwice at) first = first ≡ Some (fault at 25)
IsFault (faults.EmptyFormula at) first = first ≡ Some (fault at 26)
IsFault (faults.BadHypothesis at) first = first ≡ Some (fault at 27)
IsFault (faults.NoProof at) first = first ≡ Some (fault at 28)
IsFault (faults.StrayToken at) first = first ≡ Some (fault at 29)
