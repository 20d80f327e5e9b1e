-- Graphs that grow. This is part of the proof, and not of the claim.
use Rattle.std.specs.Prelude.{◌≡◌, ℕ, ◌<◌, List, ◌++◌, length, map, Option, Some, None, option_map}
use Rattle.std.specs.List.{AllByRecursion}
use Rattle.proof_model.specs.Proofs.{Proof, by, proofs}
use Rattle.proof_tree.specs.declared.graph.ProofNode.{ProofNode}
use Rattle.proof_tree.specs.Graphs.{node_proofs, proof_at}

-- the nodes stay, and others may stand behind them
pub record Grows (old new : List ProofNode) : Type 0 where
  pub more : List ProofNode
  pub is : new ≡ old ++ more

-- then the node with this number has this proof
pub record Adds (old new : List ProofNode) (p : Proof) (n : ℕ) : Type 0 where
  pub grows : Grows old new
  pub inside : n < length new
  pub proof : proof_at (node_proofs new) n ≡ p

-- and the nodes with these numbers have these proofs
pub record AddsAll (old new : List ProofNode) (ps : List Proof) (ns : List ℕ) : Type 0 where
  pub grows : Grows old new
  pub inside : AllByRecursion (λ n. n < length new) ns
  pub all : map (proof_at (node_proofs new)) ns ≡ ps

-- the proof that ends with this label, behind those of these nodes
abbrev pub proof_over : List ProofNode → List ℕ → List ℕ → Proof
proof_over nodes label below = by label (proofs (map (proof_at (node_proofs nodes)) below))

-- ---- steps

abbrev pub IsInside : List ProofNode → Option ℕ → Type 0
IsInside nodes None = Unit {0}
IsInside nodes (Some n) = n < length nodes

-- the proofs of the nodes with these numbers, where a step has one
abbrev pub table_proofs : List ProofNode → List (Option ℕ) → List (Option Proof)
table_proofs nodes ns = map (option_map (proof_at (node_proofs nodes))) ns

pub record IsTable (nodes : List ProofNode) (ps : List (Option Proof)) (ns : List (Option ℕ)) : Type 0 where
  pub inside : AllByRecursion (IsInside nodes) ns
  pub all : table_proofs nodes ns ≡ ps

-- the nodes stay, and then the node with this number has the proof, where there is one
pub record AddsStep (old new : List ProofNode) (p : Option Proof) (n : Option ℕ) : Type 0 where
  pub grows : Grows old new
  pub inside : IsInside new n
  pub proof : option_map (proof_at (node_proofs new)) n ≡ p

-- the node with this number has this proof
pub record IsProofAt (nodes : List ProofNode) (p : Option Proof) (n : ℕ) : Type 0 where
  pub inside : n < length nodes
  pub proof : Some (proof_at (node_proofs nodes) n) ≡ p
