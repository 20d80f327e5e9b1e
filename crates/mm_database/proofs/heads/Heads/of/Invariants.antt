use Rattle.std.proofs.Common.{take}
use Rattle.mm_database.specs.Heads.{AreHeads}
use Rattle.mm_database.proofs.heads.Heads.of.Given as goal

abbrev pub invariant-loop-number : goal.invariant-loop-number
invariant-loop-number l = AreHeads (take l.number l.parsed) l.heads
