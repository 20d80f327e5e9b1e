use Rattle.proof_tree.proofs.OrderLaws.{IsVisiting}
use Rattle.proof_tree.proofs.PartLaws.{weights}
use Rattle.proof_tree.proofs.order.first_uses.Given as goal

abbrev pub invariant-loop-part : goal.invariant-loop-part
invariant-loop-part l = IsVisiting l.nodes l.pending.items l.order.keys

abbrev pub decreases-loop-part : goal.decreases-loop-part
decreases-loop-part l = weights l.nodes l.pending.items
