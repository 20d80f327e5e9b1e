use Rattle.std.proofs.Common.{take}
use Rattle.stack_verify.specs.Contexts.{SamePairs}
use Rattle.stack_verify.proofs.known.pairs_of.Given as goal

abbrev pub invariant-loop-pair : goal.invariant-loop-pair
invariant-loop-pair l = SamePairs (take l.pair-index l.pairs) l.set.keys
