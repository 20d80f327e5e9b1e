-- Nodes in the form that is found by its hash. This is part of the proof, and not of the claim.
use Rattle.std.specs.Prelude.{List, map}
use Rattle.proof_tree.specs.declared.graph.ProofNode.{ProofNode}
use Rattle.proof_tree.specs.declared.builder.Key.{Key}

abbrev pub node_of_key : Key → ProofNode
node_of_key k = record { label = k.label.items; below = k.below.items }

abbrev pub nodes_of_keys : List Key → List ProofNode
nodes_of_keys keys = map node_of_key keys
