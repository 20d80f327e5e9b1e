use Rattle.std.proofs.Common.{◌≡◌, ◌≤◌, ◌++◌, drop, length}
use Rattle.proof_tree.specs.Walks.{parts_of}
use Rattle.proof_tree.proofs.order.push_parts.Given as goal

abbrev pub invariant-loop-left : goal.invariant-loop-left
invariant-loop-left l = (l.left ≤ length l.below) × (l.pending.items ≡ l.fn.pending.items ++ parts_of l.number (drop l.left l.below))

abbrev pub decreases-loop-left : goal.decreases-loop-left
decreases-loop-left l = l.left
