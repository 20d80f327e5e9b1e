-- Graphs of proofs: each node names nodes before it.
use Rattle.std.specs.Prelude.{◌≡◌, ℕ, ◌+◌, ◌-◌, ◌^◌, ◌<◌, List, [], ◌∷◌, ◌++◌, length, map, fold, min, slice_index_or}
use Rattle.std.specs.List.{AllByRecursion}
use Rattle.mm_base.specs.Limits.{most_proof_labels}
use Rattle.proof_model.specs.Proofs.{Proof, by, none, proofs, postorder}
use Rattle.proof_tree.specs.declared.graph.ProofNode.{ProofNode}
use Rattle.proof_tree.specs.declared.labels.NormalFault.{NormalFault}
use Rattle.proof_tree.specs.declared.labels.NormalFault.TheVariants.{TooLong, Memory}

-- each node names nodes with lesser numbers, where the first of them has this number
abbrev pub NameEarlier : ℕ → List ProofNode → Type 0
NameEarlier at [] = Unit {0}
NameEarlier at (n ∷ ns) = AllByRecursion (λ k. k < at) n.below × NameEarlier (at + 1) ns

abbrev pub no_node : ProofNode
no_node = record { label = []; below = [] }

abbrev pub node_in : List ProofNode → ℕ → ProofNode
node_in nodes k = slice_index_or nodes k no_node

-- no two nodes are equal
abbrev pub NodesDiffer : List ProofNode → Type 0
NodesDiffer nodes = (i j : ℕ) → i < length nodes → j < length nodes → node_in nodes i ≡ node_in nodes j → i ≡ j

pub record IsGraph (nodes : List ProofNode) : Type 0 where
  pub earlier : NameEarlier 0 nodes
  pub some : 0 < length nodes
  pub few : length nodes < 2 ^ 32
  pub differ : NodesDiffer nodes

abbrev pub no_proof : Proof
no_proof = by [] none

abbrev pub proof_at : List Proof → ℕ → Proof
proof_at ps k = slice_index_or ps k no_proof

-- the proof of a node, by those of the earlier ones
abbrev pub node_proof : List Proof → ProofNode → Proof
node_proof earlier n = by n.label (proofs (map (proof_at earlier) n.below))

abbrev pub with_node : List Proof → ProofNode → List Proof
with_node earlier n = earlier ++ node_proof earlier n ∷ []

-- the proofs of the nodes, in order
abbrev pub node_proofs : List ProofNode → List Proof
node_proofs nodes = fold with_node [] nodes

-- the proof of the last node
abbrev pub root_proof : List ProofNode → Proof
root_proof nodes = proof_at (node_proofs nodes) (length nodes - 1)

-- the number of a proof's labels, as far as it fits
abbrev pub label_count : Proof → ℕ
label_count p = min (2 ^ 64 - 1) (length (postorder p))

abbrev pub added_count : List ℕ → ℕ → ℕ → ℕ
added_count counts n k = min (2 ^ 64 - 1) (n + slice_index_or counts k 0)

-- the number of the labels of a proof that is too long
abbrev pub IsTold : Proof → NormalFault → Type 0
IsTold p (TooLong n) = (n ≡ label_count p) × (most_proof_labels < n)
IsTold p Memory = Unit {0}
