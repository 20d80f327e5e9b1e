use Rattle.std.proofs.Common.{◌≡◌, map, take}
use Rattle.proof_tree.specs.Graphs.{node_proofs, label_count}
use Rattle.proof_tree.proofs.labels.counts.Given as goal

abbrev pub invariant-loop-node : goal.invariant-loop-node
invariant-loop-node l = l.counts.items ≡ map label_count (node_proofs (take l.node-index l.nodes))
