-- Graphs that grow.
use Rattle.std.proofs.Common.{◌≡◌, ℕ, suc, ◌+◌, ◌<◌, ◌≤◌, List, [], ◌∷◌, ◌++◌, length, map, fold, get_or, refl, sym, ap, subst, ◌∙◌, arith}
use Rattle.std.proofs.lemmas.List.{length-append, append-nil}
use Rattle.std.specs.List.{AllByRecursion}
use Rattle.proof_model.specs.Proofs.{by, proofs}
use Rattle.proof_tree.specs.declared.graph.ProofNode.{ProofNode}
use Rattle.proof_tree.specs.Graphs.{NameEarlier, no_node, proof_at, node_proof, with_node, node_proofs}
use Rattle.proof_tree.specs.Adding.{Grows, Adds, proof_over}
use Rattle.proof_tree.proofs.GraphLaws.{stable, count_proofs, node_at, map_where, all_weaker, append_twice}

-- ---- the nodes stay

pub grows_none : (ns : List ProofNode) → Grows ns ns
grows_none ns = record { more = []; is = sym (append-nil ns) }

pub grows_on : (a b c : List ProofNode) → Grows a b → Grows b c → Grows a c
grows_on a b c g h = record { more = g.more ++ h.more; is = h.is ∙ ap (λ l. l ++ h.more) g.is ∙ append_twice a g.more h.more }

pub grown_length : (a b : List ProofNode) → Grows a b → length a ≤ length b
grown_length a b g = let e = ap length g.is ∙ length-append a g.more in omega (arith, e)

fold_twice : {A B : Type 0} (f : B → A → B) (b : B) (xs ys : List A) → fold f b (xs ++ ys) ≡ fold f (fold f b xs) ys
fold_twice f b [] ys = refl
fold_twice f b (x ∷ xs) ys = fold_twice f (f b x) xs ys

-- and so do their proofs
pub grown_proof : (a b : List ProofNode) (k : ℕ) → Grows a b → k < length a → proof_at (node_proofs b) k ≡ proof_at (node_proofs a) k
grown_proof a b k g h =
    let many = count_proofs a [] in
    ap (λ ns. proof_at (node_proofs ns) k) g.is ∙ ap (λ ps. proof_at ps k) (fold_twice with_node [] a g.more) ∙ stable g.more (node_proofs a) k (omega (arith, many, h))

pub grown_proofs : (a b : List ProofNode) (ks : List ℕ) → Grows a b → AllByRecursion (λ k. k < length a) ks → map (proof_at (node_proofs b)) ks ≡ map (proof_at (node_proofs a)) ks
grown_proofs a b ks g h = map_where (λ k. k < length a) (proof_at (node_proofs b)) (proof_at (node_proofs a)) (λ k l. grown_proof a b k g l) ks h

pub grown_inside : (a b : List ProofNode) (ks : List ℕ) → Grows a b → AllByRecursion (λ k. k < length a) ks → AllByRecursion (λ k. k < length b) ks
grown_inside a b ks g h = let more = grown_length a b g in all_weaker (λ k. k < length a) (λ k. k < length b) (λ k l. omega (arith, l, more)) ks h

-- ---- one node

pub earlier_push : (ns : List ProofNode) (n : ProofNode) (at : ℕ) → NameEarlier at ns → AllByRecursion (λ k. k < at + length ns) n.below → NameEarlier at (ns ++ n ∷ [])
earlier_push [] n at e h = (subst (λ m. AllByRecursion (λ k. k < m) n.below) (let s : at + 0 ≡ at = omega arith in s) h, tt)
earlier_push (m ∷ ns) n at e h =
    (e.0, earlier_push ns n (at + 1) e.1 (subst (λ j. AllByRecursion (λ k. k < j) n.below) (let s : at + suc (length ns) ≡ at + 1 + length ns = omega arith in s) h))

pub adds_node : (old new : List ProofNode) (n : ProofNode) (i : ℕ) → Grows old new → NameEarlier 0 new → AllByRecursion (λ k. k < length old) n.below → i < length new → get_or new i no_node ≡ n
    → Adds old new (proof_over old n.label n.below) i
adds_node old new n i g e h l is = record {
  grows = g;
  inside = l;
  proof = node_at new i no_node l e ∙ ap (node_proof (node_proofs new)) is ∙ ap (λ ps. by n.label (proofs ps)) (grown_proofs old new n.below g h);
}
