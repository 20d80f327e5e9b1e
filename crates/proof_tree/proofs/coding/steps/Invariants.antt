use Rattle.proof_tree.proofs.StepLaws.{CodesSoFar}
use Rattle.proof_tree.proofs.PartLaws.{weights}
use Rattle.proof_tree.proofs.coding.steps.Given as goal

abbrev pub invariant-loop-part : goal.invariant-loop-part
invariant-loop-part l = CodesSoFar l.nodes l.uses l.mandatory.names l.mandatory.places.items l.labels l.pending.items l.coder

abbrev pub decreases-loop-part : goal.decreases-loop-part
decreases-loop-part l = weights l.nodes l.pending.items
