-- Equal proofs, and the nodes that have them.
use Rattle.std.proofs.Common.{◌≡◌, ℕ, zero, suc, ◌+◌, ◌<◌, Bool, true, false, ◌&&◌, ◌||◌, cond, nat_eq, List, [], ◌∷◌, length, map, Some, option_map, refl, sym, ap, ◌∙◌, arith}
use Rattle.std.proofs.lemmas.Bool.{eqb-true, eq-eqb}
use Rattle.std.proofs.lemmas.Slice.Eq.{bytes_eq-Decides}
use Rattle.std.specs.List.{AllByRecursion, list_any}
use Rattle.std.specs.Str.{bytes_eq}
use Rattle.mm_model.specs.Names.{first_number}
use Rattle.proof_model.specs.Proofs.{Proof, Proofs, by, none, next, proofs, same_proof, same_proofs}
use Rattle.proof_tree.specs.declared.graph.ProofNode.{ProofNode}
use Rattle.proof_tree.specs.Graphs.{IsGraph, no_node, node_in, node_proofs, proof_at}
use Rattle.proof_tree.proofs.GraphLaws.{node_at, below_at, all_weaker}

both : (a b : Bool) → (a && b) ≡ true → (a ≡ true) × (b ≡ true)
both true b e = (refl, e)
both false b e = absurd cc

both_back : (a b : Bool) → a ≡ true → b ≡ true → (a && b) ≡ true
both_back true b e f = f
both_back false b e f = absurd cc

mutual
  pub same_sound : (p q : Proof) → same_proof p q ≡ true → p ≡ q
  same_sound (by a ps) (by b qs) e =
      let parts = both (bytes_eq a b) (same_proofs ps qs) e in
      ap (λ l. by l ps) ((bytes_eq-Decides a b).0 parts.0) ∙ ap (by b) (sames_sound ps qs parts.1)

  sames_sound : (ps qs : Proofs) → same_proofs ps qs ≡ true → ps ≡ qs
  sames_sound none none e = refl
  sames_sound none (next q qs) e = absurd cc
  sames_sound (next p ps) none e = absurd cc
  sames_sound (next p ps) (next q qs) e =
      let parts = both (same_proof p q) (same_proofs ps qs) e in
      ap (λ r. next r ps) (same_sound p q parts.0) ∙ ap (next q) (sames_sound ps qs parts.1)

mutual
  pub same_self : (p : Proof) → same_proof p p ≡ true
  same_self (by a ps) = both_back (bytes_eq a a) (same_proofs ps ps) ((bytes_eq-Decides a a).1 refl) (sames_self ps)

  sames_self : (ps : Proofs) → same_proofs ps ps ≡ true
  sames_self none = refl
  sames_self (next p ps) = both_back (same_proof p p) (same_proofs ps ps) (same_self p) (sames_self ps)

pub iff_same : (a b : Bool) → (a ≡ true → b ≡ true) → (b ≡ true → a ≡ true) → a ≡ b
iff_same true b f g = sym (f refl)
iff_same false true f g = g refl
iff_same false false f g = refl

-- ---- no two nodes have one proof

abbrev node : List ℕ → List ℕ → ProofNode
node label below = record { label = label; below = below }

lists_same : (f : ℕ → Proof) (P Q : ℕ → Type 0) → ((k j : ℕ) → P k → Q j → f k ≡ f j → k ≡ j) → (ks js : List ℕ) → AllByRecursion P ks
    → AllByRecursion Q js → proofs (map f ks) ≡ proofs (map f js) → ks ≡ js
lists_same f P Q h [] [] a b e = refl
lists_same f P Q h [] (j ∷ js) a b e = absurd cc
lists_same f P Q h (k ∷ ks) [] a b e = absurd cc
lists_same f P Q h (k ∷ ks) (j ∷ js) a b e =
    let first : f k ≡ f j = cc in
    let rest : proofs (map f ks) ≡ proofs (map f js) = cc in
    ap (λ x. x ∷ ks) (h k j a.0 b.0 first) ∙ ap (λ l. j ∷ l) (lists_same f P Q h ks js a.1 b.1 rest)

module _ (nodes : List ProofNode) (graph : IsGraph nodes) where
  abbrev P : ℕ → Proof
  P = proof_at (node_proofs nodes)

  below_inside : (i : ℕ) → i < length nodes → AllByRecursion (λ k. k < i) (node_in nodes i).below
  below_inside i h = all_weaker (λ k. k < 0 + i) (λ k. k < i) (λ k l. omega (arith, l)) (node_in nodes i).below (below_at nodes 0 i no_node h graph.earlier)

  one_below : (m i j : ℕ) → i < m → i < length nodes → j < length nodes → P i ≡ P j → i ≡ j
  one_below zero i j h k l e = absurd (omega arith)
  one_below (suc m) i j h k l e =
      let a = node_in nodes i in
      let b = node_in nodes j in
      let parts : by a.label (proofs (map P a.below)) ≡ by b.label (proofs (map P b.below)) = sym (node_at nodes i no_node k graph.earlier) ∙ e ∙ node_at nodes j no_node l graph.earlier in
      let label : a.label ≡ b.label = cc in
      let belows : proofs (map P a.below) ≡ proofs (map P b.below) = cc in
      let below : a.below ≡ b.below =
      lists_same P (λ x. x < i) (λ y. y < j)
      (λ x y less more same. one_below m x y (omega (arith, less, h)) (omega (arith, less, k)) (omega (arith, more, l)) same) a.below b.below
      (below_inside i k) (below_inside j l) belows in
      graph.differ i j k l (ap (λ x. node x a.below) label ∙ ap (node b.label) below)

  pub one_node : (i j : ℕ) → i < length nodes → j < length nodes → P i ≡ P j → i ≡ j
  one_node i j k l e = one_below (suc i) i j (omega arith) k l e

  pub same_nodes : (n k : ℕ) → n < length nodes → k < length nodes → same_proof (P n) (P k) ≡ nat_eq n k
  same_nodes n k h l =
      iff_same (same_proof (P n) (P k)) (nat_eq n k) (λ e. eq-eqb n k (one_node n k h l (same_sound (P n) (P k) e)))
      (λ e. ap (λ j. same_proof (P n) (P j)) (sym (eqb-true n k e)) ∙ same_self (P n))

  pub any_nodes : (n : ℕ) (ks : List ℕ) → n < length nodes → AllByRecursion (λ k. k < length nodes) ks → list_any (same_proof (P n)) (map P ks) ≡ list_any (nat_eq n) ks
  any_nodes n [] h a = refl
  any_nodes n (k ∷ ks) h a = ap (λ b. b || list_any (same_proof (P n)) (map P ks)) (same_nodes n k h a.0) ∙ ap (λ b. nat_eq n k || b) (any_nodes n ks h a.1)

  pub first_nodes : (n : ℕ) (ks : List ℕ) → n < length nodes → AllByRecursion (λ k. k < length nodes) ks → first_number (same_proof (P n)) (map P ks) ≡ first_number (nat_eq n) ks
  first_nodes n [] h a = refl
  first_nodes n (k ∷ ks) h a =
      ap (λ b. cond b (Some 0) (option_map suc (first_number (same_proof (P n)) (map P ks)))) (same_nodes n k h a.0) ∙ ap (λ o. cond (nat_eq n k) (Some 0) (option_map suc o)) (first_nodes n ks h a.1)
