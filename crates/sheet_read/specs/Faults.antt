-- The reader's errors as faults of the definitions.
use Rattle.std.specs.Prelude.{◌≡◌, ℕ, Option, Some}
use Rattle.mm_model.specs.Faults.{Fault, fault}
use Rattle.sheet_read.specs.declared.fault.SheetCode.{SheetCode}
use Rattle.sheet_read.specs.declared.fault.SheetCode.TheVariants as codes
use Rattle.sheet_read.specs.declared.fault.SheetFault.{SheetFault}
use Rattle.sheet_read.specs.declared.fault.SheetFault.TheVariants as faults

abbrev pub code_of : SheetCode → ℕ
code_of codes.NoHeader = 40
code_of codes.BadHeader = 41
code_of codes.NoFooter = 42
code_of codes.TextAfterFooter = 43
code_of codes.BadStep = 44
code_of codes.NameTwice = 45
code_of codes.HypUnknown = 46
code_of codes.QedPlace = 47
code_of codes.ProofUnended = 48
code_of codes.BadDistinct = 49

-- the error is want of memory, or this first fault
abbrev pub IsFault : SheetFault → Option Fault → Type 0
IsFault faults.Memory first = Unit {0}
IsFault (faults.At code line) first = first ≡ Some (fault line (code_of code))
