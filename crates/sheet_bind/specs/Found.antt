-- The faults that the code finds, as faults of the definitions.
use Rattle.std.specs.Prelude.{ℕ}
use Rattle.mm_model.specs.Faults.{Fault, fault}
use Rattle.sheet_bind.specs.declared.faults.BindCode.{BindCode}
use Rattle.sheet_bind.specs.declared.faults.BindCode.TheVariants as code
use Rattle.sheet_bind.specs.declared.faults.FoundFault.{FoundFault}

-- the number of a code
abbrev pub number_of : BindCode → ℕ
number_of code.LocUnknown = 60
number_of code.TheoremTaken = 61
number_of code.HypsDiffer = 62
number_of code.HypLabelTaken = 63
number_of code.HypWithHyps = 64
number_of code.NotProvable = 65
number_of code.UnknownSymbol = 66
number_of code.NoTree = 67
number_of code.TwoTrees = 68
number_of code.Blank = 69
number_of code.NotVariable = 70
number_of code.FormulaLong = 71
number_of code.HypLabelTwice = 72
number_of code.TheoremName = 73

abbrev pub found : FoundFault → Fault
found f = fault f.line (number_of f.code)
