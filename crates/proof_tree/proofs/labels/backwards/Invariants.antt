use Rattle.std.proofs.Common.{length}
use Rattle.proof_tree.proofs.GraphLaws.{IsBackwards, pending_labels}
use Rattle.proof_tree.proofs.labels.backwards.Given as goal

abbrev pub invariant-loop-number : goal.invariant-loop-number
invariant-loop-number l = IsBackwards l.nodes l.pending.items l.labels.items

abbrev pub decreases-loop-number : goal.decreases-loop-number
decreases-loop-number l = length (pending_labels l.nodes l.pending.items)
