use Rattle.std.proofs.Common.{take}
use Rattle.proof_tree.specs.Walks.{AreUses}
use Rattle.proof_tree.proofs.order.uses.Given as goal

abbrev pub invariant-loop-number : goal.invariant-loop-number
invariant-loop-number l = AreUses l.nodes (take l.number-index l.order) l.uses.items
