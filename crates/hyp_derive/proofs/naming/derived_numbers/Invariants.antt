use Rattle.std.proofs.Common.{take}
use Rattle.hyp_derive.specs.Naming.{AreNumbersOf}
use Rattle.hyp_derive.proofs.naming.derived_numbers.Given as goal

abbrev pub invariant-loop-name : goal.invariant-loop-name
invariant-loop-name l = AreNumbersOf (take l.name-index l.used) l.numbers.items
