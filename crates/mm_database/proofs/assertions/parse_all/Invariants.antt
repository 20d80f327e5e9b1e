use Rattle.std.proofs.Common.{take}
use Rattle.mm_database.specs.Assertions.{AreParsed}
use Rattle.mm_database.proofs.assertions.parse_all.Given as goal

abbrev pub invariant-loop-entry : goal.invariant-loop-entry
invariant-loop-entry l = AreParsed l.kinds l.grammar l.constants (take l.entry-index l.frames) l.parsed.items
