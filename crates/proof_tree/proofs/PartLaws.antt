-- Parts of proofs that are pending.
use Rattle.std.proofs.Common.{◌≡◌, ℕ, suc, ◌+◌, ◌*◌, ◌<◌, Bool, true, false, List, [], ◌∷◌, ◌++◌, length, map, fold, drop, reverse, get_or, refl, sym, ap, ◌∙◌, subst, arith}
use Rattle.std.proofs.lemmas.List.{reverse-append, reverse-reverse, length-append}
use Rattle.std.proofs.Math.Seq.{drop-cons}
use Rattle.std.specs.List.{AllByRecursion}
use Rattle.proof_model.specs.Proofs.{postorder}
use Rattle.proof_tree.specs.declared.graph.ProofNode.{ProofNode}
use Rattle.proof_tree.specs.declared.order.Part.{Part}
use Rattle.proof_tree.specs.declared.order.Part.TheVariants as part
use Rattle.proof_tree.specs.Graphs.{NameEarlier, no_node, node_in, node_proofs, proof_at}
use Rattle.proof_tree.specs.Walks.{below_of, parts_of, parts_unless}
use Rattle.proof_tree.proofs.GraphLaws.{node_labels, pending_labels, append_twice, all_append, all_front, all_back, below_inside, one_longer}

-- ---- what is done with them

module _ {S : Type 0} (at_proof at_label : ℕ → S → S) where
  abbrev pub at_part : Part → S → S
  at_part (part.Proof n) s = at_proof n s
  at_part (part.Label n) s = at_label n s

  abbrev pub run : List Part → S → S
  run parts s = fold (λ t p. at_part p t) s (reverse parts)

  fold_on : (ps qs : List Part) (s : S) → fold (λ t p. at_part p t) s (ps ++ qs) ≡ fold (λ t p. at_part p t) (fold (λ t p. at_part p t) s ps) qs
  fold_on [] qs s = refl
  fold_on (p ∷ ps) qs s = fold_on ps qs (at_part p s)

  pub run_last : (rest : List Part) (p : Part) (s : S) → run (rest ++ p ∷ []) s ≡ run rest (at_part p s)
  run_last rest p s = ap (fold (λ t p. at_part p t) s) (reverse-append rest (p ∷ []))

  fold_below : (ks : List ℕ) (s : S) → fold (λ t p. at_part p t) s (map part.Proof ks) ≡ fold (λ t k. at_proof k t) s ks
  fold_below [] s = refl
  fold_below (k ∷ ks) s = fold_below ks (at_proof k s)

  turned : (n : ℕ) (ks : List ℕ) → reverse (parts_of n ks) ≡ map part.Proof ks ++ part.Label n ∷ []
  turned n ks = reverse-append (part.Label n ∷ []) (reverse (map part.Proof ks)) ∙ ap (λ l. l ++ part.Label n ∷ []) (reverse-reverse (map part.Proof ks))

  pub run_parts : (rest : List Part) (n : ℕ) (ks : List ℕ) (s : S) → run (rest ++ parts_of n ks) s ≡ run rest (at_label n (fold (λ t k. at_proof k t) s ks))
  run_parts rest n ks s =
      ap (fold (λ t p. at_part p t) s) (reverse-append rest (parts_of n ks) ∙ ap (λ l. l ++ reverse rest) (turned n ks))
      ∙ fold_on (map part.Proof ks ++ part.Label n ∷ []) (reverse rest) s
      ∙ ap (λ t. fold (λ t p. at_part p t) t (reverse rest)) (fold_on (map part.Proof ks) (part.Label n ∷ []) s ∙ ap (at_label n) (fold_below ks s))

-- ---- each is a node

abbrev pub IsPart : List ProofNode → Part → Type 0
IsPart nodes (part.Proof n) = n < length nodes
IsPart nodes (part.Label n) = n < length nodes

all_reverse : {X : Type 0} (P : X → Type 0) (xs : List X) → AllByRecursion P xs → AllByRecursion P (reverse xs)
all_reverse P [] h = tt
all_reverse P (x ∷ xs) h = subst (AllByRecursion P) (sym (reverse-append (x ∷ []) xs)) (all_append P (reverse xs) (x ∷ []) (all_reverse P xs h.1) (h.0, tt))

all_below : (nodes : List ProofNode) (ks : List ℕ) → AllByRecursion (λ k. k < length nodes) ks → AllByRecursion (IsPart nodes) (map part.Proof ks)
all_below nodes [] h = tt
all_below nodes (k ∷ ks) h = (h.0, all_below nodes ks h.1)

pub parts_inside : (nodes : List ProofNode) (n : ℕ) → n < length nodes → NameEarlier 0 nodes → AllByRecursion (IsPart nodes) (parts_of n (below_of nodes n))
parts_inside nodes n h e = (h, all_reverse (IsPart nodes) (map part.Proof (below_of nodes n)) (all_below nodes (below_of nodes n) (below_inside nodes n no_node h e)))

pub last_part : (nodes : List ProofNode) (pending rest : List Part) (p : Part) → pending ≡ rest ++ p ∷ [] → AllByRecursion (IsPart nodes) pending → IsPart nodes p
last_part nodes pending rest p e h = (all_back (IsPart nodes) rest (p ∷ []) (subst (AllByRecursion (IsPart nodes)) e h)).0

pub rest_parts : (nodes : List ProofNode) (pending rest : List Part) (p : Part) → pending ≡ rest ++ p ∷ [] → AllByRecursion (IsPart nodes) pending → AllByRecursion (IsPart nodes) rest
rest_parts nodes pending rest p e h = all_front (IsPart nodes) rest (p ∷ []) (subst (AllByRecursion (IsPart nodes)) e h)

-- ---- how much is left

abbrev weight : List ProofNode → Part → ℕ
weight nodes (part.Proof n) = 2 * length (postorder (proof_at (node_proofs nodes) n))
weight nodes (part.Label n) = 1

abbrev pub weights : List ProofNode → List Part → ℕ
weights nodes [] = 0
weights nodes (p ∷ ps) = weight nodes p + weights nodes ps

weights_append : (nodes : List ProofNode) (ps qs : List Part) → weights nodes (ps ++ qs) ≡ weights nodes ps + weights nodes qs
weights_append nodes [] qs = omega arith
weights_append nodes (p ∷ ps) qs = let rest = weights_append nodes ps qs in omega (arith, rest)

weights_reverse : (nodes : List ProofNode) (ps : List Part) → weights nodes (reverse ps) ≡ weights nodes ps
weights_reverse nodes [] = refl
weights_reverse nodes (p ∷ ps) =
    let turned = ap (weights nodes) (reverse-append (p ∷ []) ps) ∙ weights_append nodes (reverse ps) (p ∷ []) in
    let rest = weights_reverse nodes ps in
    omega (arith, turned, rest)

weights_below : (nodes : List ProofNode) (ks : List ℕ) → weights nodes (map part.Proof ks) ≡ 2 * length (pending_labels nodes ks)
weights_below nodes [] = refl
weights_below nodes (k ∷ ks) =
    let rest = weights_below nodes ks in
    let here = length-append (postorder (proof_at (node_proofs nodes) k)) (pending_labels nodes ks) in
    omega (arith, rest, here)

weights_parts : (nodes : List ProofNode) (n : ℕ) → n < length nodes → NameEarlier 0 nodes → weights nodes (parts_of n (below_of nodes n)) + 1 ≡ weight nodes (part.Proof n)
weights_parts nodes n h e =
    let turned = weights_reverse nodes (map part.Proof (below_of nodes n)) in
    let below = weights_below nodes (below_of nodes n) in
    let all = ap length (node_labels nodes n no_node h e) in
    let one = one_longer (pending_labels nodes (below_of nodes n)) (node_in nodes n).label in
    omega (arith, turned, below, all, one)

parts_weigh_less : (nodes : List ProofNode) (n : ℕ) (b : Bool) → n < length nodes → NameEarlier 0 nodes → weights nodes (parts_unless b n (below_of nodes n)) < weight nodes (part.Proof n)
parts_weigh_less nodes n true h e = let all = weights_parts nodes n h e in omega (arith, all)
parts_weigh_less nodes n false h e = let all = weights_parts nodes n h e in omega (arith, all)

pub fewer_parts : (nodes : List ProofNode) (pending rest now : List Part) (n : ℕ) (b : Bool) → pending ≡ rest ++ part.Proof n ∷ [] → n < length nodes
    → NameEarlier 0 nodes → now ≡ rest ++ parts_unless b n (below_of nodes n)
    → weights nodes now < weights nodes pending
fewer_parts nodes pending rest now n b e h k is =
    let before = ap (weights nodes) e ∙ weights_append nodes rest (part.Proof n ∷ []) in
    let after = ap (weights nodes) is ∙ weights_append nodes rest (parts_unless b n (below_of nodes n)) in
    let less = parts_weigh_less nodes n b h k in
    omega (arith, before, after, less)

pub fewer_labels : (nodes : List ProofNode) (pending rest : List Part) (n : ℕ) → pending ≡ rest ++ part.Label n ∷ [] → weights nodes rest < weights nodes pending
fewer_labels nodes pending rest n e = let before = ap (weights nodes) e ∙ weights_append nodes rest (part.Label n ∷ []) in omega (arith, before)

-- ---- put in from the last one to the first

pub parts_so_far : (below : List ℕ) (left now : ℕ) (n : ℕ) (old before after : List Part) → left ≡ suc now → now < length below
    → before ≡ old ++ parts_of n (drop left below) → after ≡ before ++ part.Proof (get_or below now 0) ∷ []
    → after ≡ old ++ parts_of n (drop now below)
parts_so_far below left now n old before after one inside is more =
    more ∙ ap (λ l. l ++ part.Proof (get_or below now 0) ∷ []) (is ∙ ap (λ k. old ++ parts_of n (drop k below)) one)
    ∙ append_twice old (parts_of n (drop (suc now) below)) (part.Proof (get_or below now 0) ∷ [])
    ∙ ap (λ l. old ++ part.Label n ∷ l) (sym (reverse-append (part.Proof (get_or below now 0) ∷ []) (map part.Proof (drop (suc now) below))))
    ∙ ap (λ l. old ++ parts_of n l) (sym (drop-cons below now 0 inside))

drop_all : {X : Type 0} (xs : List X) → drop (length xs) xs ≡ []
drop_all [] = refl
drop_all (x ∷ xs) = drop_all xs

pub parts_begun : (below : List ℕ) (left n : ℕ) (old now : List Part) → left ≡ length below → now ≡ old ++ part.Label n ∷ [] → now ≡ old ++ parts_of n (drop left below)
parts_begun below left n old now e is = is ∙ ap (λ l. old ++ parts_of n l) (sym (ap (λ k. drop k below) e ∙ drop_all below))
