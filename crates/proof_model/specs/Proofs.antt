-- Proofs as trees of labels.
use Rattle.std.specs.Prelude.{ℕ, Bool, true, false, ◌&&◌, List, [], ◌∷◌, ◌++◌}
use Rattle.std.specs.Str.{bytes_eq}

-- a label, and the proofs of its hypotheses in order
mutual
  pub data Proof : Type 0 where
    by : List ℕ → Proofs → Proof

  pub data Proofs : Type 0 where
    none : Proofs
    next : Proof → Proofs → Proofs

-- proofs as a list
abbrev pub listed : Proofs → List Proof
listed none = []
listed (next p ps) = p ∷ listed ps

abbrev pub proofs : List Proof → Proofs
proofs [] = none
proofs (p ∷ ps) = next p (proofs ps)

abbrev pub children : Proof → List Proof
children (by label below) = listed below

-- the labels, each behind those of the proofs of its hypotheses
abbrev mutual
  pub postorder : Proof → List (List ℕ)
  postorder (by label below) = postorders below ++ label ∷ []

  pub postorders : Proofs → List (List ℕ)
  postorders none = []
  postorders (next p ps) = postorder p ++ postorders ps

-- two proofs are equal
abbrev mutual
  pub same_proof : Proof → Proof → Bool
  same_proof (by a ps) (by b qs) = bytes_eq a b && same_proofs ps qs

  pub same_proofs : Proofs → Proofs → Bool
  same_proofs none none = true
  same_proofs none (next q qs) = false
  same_proofs (next p ps) none = false
  same_proofs (next p ps) (next q qs) = same_proof p q && same_proofs ps qs

-- the subproofs of a proof, itself among them, each as often as it stands there
abbrev mutual
  pub subproofs : Proof → List Proof
  subproofs (by label below) = subproofs_in below ++ by label below ∷ []

  pub subproofs_in : Proofs → List Proof
  subproofs_in none = []
  subproofs_in (next p ps) = subproofs p ++ subproofs_in ps
