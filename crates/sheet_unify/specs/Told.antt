-- The faults of a worksheet's text, and those over its database, as the unifier tells them. This is part of the proof, and not of the claim.
use Rattle.sheet_bind.specs.declared.faults.BindFault.{BindFault}
use Rattle.sheet_bind.specs.declared.faults.BindFault.TheVariants as bound
use Rattle.sheet_read.specs.declared.fault.SheetFault.{SheetFault}
use Rattle.sheet_read.specs.declared.fault.SheetFault.TheVariants as text
use Rattle.sheet_unify.specs.declared.faults.UnifyFault.{UnifyFault}
use Rattle.sheet_unify.specs.declared.faults.UnifyFault.TheVariants as faults

abbrev pub of_text : SheetFault → UnifyFault
of_text (text.At code line) = faults.Sheet code line
of_text text.Memory = faults.Memory

abbrev pub of_binding : BindFault → UnifyFault
of_binding (bound.At code line) = faults.Bind code line
of_binding (bound.TooMuch size) = faults.TooMuch size
of_binding bound.Memory = faults.Memory
