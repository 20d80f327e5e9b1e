-- Ways through a proof: by parts that are pending, and each subproof once. This is part of the proof, and not of the claim.
use Rattle.std.specs.Prelude.{◌≡◌, ℕ, ◌+◌, ◌-◌, ◌^◌, ◌<◌, Bool, List, [], ◌∷◌, ◌++◌, length, map, flat_map, min, reverse, count_by, nat_eq, slice_index_or, if◌then◌else◌}
use Rattle.std.specs.List.{AllByRecursion, list_any}
use Rattle.proof_model.specs.Proofs.{Proof, same_proof, subproofs}
use Rattle.proof_model.specs.Codes.{distinct_proofs}
use Rattle.proof_tree.specs.declared.graph.ProofNode.{ProofNode}
use Rattle.proof_tree.specs.declared.order.Part.{Part}
use Rattle.proof_tree.specs.declared.order.Part.TheVariants as part
use Rattle.proof_tree.specs.Graphs.{node_in, node_proofs, proof_at, root_proof}

abbrev pub below_of : List ProofNode → ℕ → List ℕ
below_of nodes n = (node_in nodes n).below

-- the parts of a node's proof, the last of them first
abbrev pub parts_of : ℕ → List ℕ → List Part
parts_of n below = part.Label n ∷ reverse (map part.Proof below)

-- those that are gone through, where these proofs were
abbrev pub parts_unless : Bool → ℕ → List ℕ → List Part
parts_unless done n below = if done then [] else parts_of n below

-- each subproof once, where it stands first
abbrev pub see : List Proof → Proof → List Proof
see seen p = if list_any (same_proof p) seen then seen else seen ++ p ∷ []

-- the nodes of a graph's proof, each where its proof first stands
pub record IsOrder (nodes : List ProofNode) (order : List ℕ) : Type 0 where
  pub inside : AllByRecursion (λ k. k < length nodes) order
  pub proofs_are : map (proof_at (node_proofs nodes)) order ≡ distinct_proofs (subproofs (root_proof nodes))

abbrev pub capped : ℕ → ℕ
capped n = min (2 ^ 32 - 1) n

-- by node the number of the places of these nodes that name it, as far as it fits
pub record AreUses (nodes : List ProofNode) (order uses : List ℕ) : Type 0 where
  pub many : length uses ≡ length nodes
  pub count : (n : ℕ) → n < length nodes → slice_index_or uses n 0 ≡ capped (count_by (nat_eq n) (flat_map (below_of nodes) order))

-- the same after the places of one more node
abbrev pub AddUses : List ℕ → List ℕ → List ℕ → Type 0
AddUses old new below = (n : ℕ) → n < length old → slice_index_or new n 0 ≡ capped (slice_index_or old n 0 + count_by (nat_eq n) below)
