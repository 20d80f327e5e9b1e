use Rattle.std.proofs.Common.{take}
use Rattle.proof_tree.proofs.UseLaws.{UsesAfter}
use Rattle.proof_tree.proofs.order.count_uses.Given as goal

abbrev pub invariant-loop-number : goal.invariant-loop-number
invariant-loop-number l = UsesAfter l.initial.uses l.uses (take l.number-index l.below)
