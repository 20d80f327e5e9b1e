-- How often each node is named.
use Rattle.std.proofs.Common.{◌≡◌, ◌≢◌, ℕ, ◌+◌, ◌-◌, ◌^◌, ◌<◌, ◌≤◌, min, Bool, true, false, true≢false, cond, nat_eq, List, [], ◌∷◌, ◌++◌, length}
use Rattle.std.proofs.Common.{fold, take, drop, get_or, refl, sym, ap, ◌∙◌, subst, arith, get_or-set_same, get_or-set_other}
use Rattle.std.specs.Prelude.{count_by, flat_map, slice_set, replicate}
use Rattle.std.specs.List.{AllByRecursion}
use Rattle.std.proofs.lemmas.Bool.{eqb-true, eq-eqb}
use Rattle.std.proofs.lemmas.List.{length-replicate, get_or-replicate, get_or_default}
use Rattle.std.proofs.lemmas.List.Sums.{fold_more, fold-append}
use Rattle.proof_tree.specs.declared.graph.ProofNode.{ProofNode}
use Rattle.proof_tree.specs.Walks.{capped, below_of, AddUses, AreUses}
use Rattle.proof_tree.specs.Graphs.{IsGraph, no_node}
use Rattle.proof_tree.proofs.BuildLaws.{drop_whole}
use Rattle.proof_tree.proofs.GraphLaws.{take_more, take_whole, append_none, append_twice, all_at, below_inside}

abbrev one_if : Bool → ℕ
one_if b = cond b 1 0

counted : (n : ℕ) (ks : List ℕ) (i : ℕ) → i < length ks → count_by (nat_eq n) (take (i + 1) ks) ≡ count_by (nat_eq n) (take i ks) + one_if (nat_eq n (get_or ks i 0))
counted n ks i h = fold_more (λ a x. a + cond (nat_eq n x) 1 0) 0 ks i 0 h

-- the numbers after these places
pub record UsesAfter (first now : List ℕ) (ks : List ℕ) : Type 0 where
  pub many : length now ≡ length first
  pub each : AddUses first now ks

pub uses_begun : (first : List ℕ) → ((n : ℕ) → get_or first n 0 < 2 ^ 32) → UsesAfter first first []
uses_begun first small = record { many = refl; each = λ n h. (let s = small n in omega (arith, s)) }

pub uses_more : (below : List ℕ) (i x : ℕ) (first old new : List ℕ) → i < length below → x ≡ get_or below i 0 → x < length first
    → length new ≡ length old → new ≡ slice_set old x (min (2 ^ 32 - 1) (get_or old x 0 + 1))
    → UsesAfter first old (take i below) → UsesAfter first new (take (i + 1) below)
uses_more below i x first old new inside is less same set u = record {
  many = same ∙ u.many;
  each = λ n h. by n h (nat_eq n x) refl;
}
  where
    by : (n : ℕ) → n < length first → (b : Bool) → nat_eq n x ≡ b → get_or new n 0 ≡ capped (get_or first n 0 + count_by (nat_eq n) (take (i + 1) below))
    by n h true e =
        let here : n ≡ x = eqb-true n x e in
        let inside' : x < length old = (let m = u.many in omega (arith, m, less)) in
        let now : get_or new n 0 ≡ min (2 ^ 32 - 1) (get_or old x 0 + 1) =
        ap (λ k. get_or new k 0) here ∙ ap (λ l. get_or l x 0) set ∙ get_or-set_same old x (min (2 ^ 32 - 1) (get_or old x 0 + 1)) 0 inside' in
        let before : get_or old x 0 ≡ capped (get_or first n 0 + count_by (nat_eq n) (take i below)) = ap (λ k. get_or old k 0) (sym here) ∙ u.each n h in
        let count : count_by (nat_eq n) (take (i + 1) below) ≡ count_by (nat_eq n) (take i below) + 1 =
        counted n below i inside ∙ ap (λ k. count_by (nat_eq n) (take i below) + one_if (nat_eq n k)) (sym is)
        ∙ ap (λ b. count_by (nat_eq n) (take i below) + one_if b) e in
        added (2 ^ 32 - 1) (get_or new n 0) (get_or old x 0) (get_or first n 0) (count_by (nat_eq n) (take i below)) (count_by (nat_eq n) (take (i + 1) below)) now before count
      where
        added : (top g o f c d : ℕ) → g ≡ min top (o + 1) → o ≡ min top (f + c) → d ≡ c + 1 → g ≡ min top (f + d)
        added top g o f c d p q r = omega (arith, p, q, r)
    by n h false e =
        let other : n ≢ x = λ (s : n ≡ x). true≢false (sym (eq-eqb n x s) ∙ e) in
        let now : get_or new n 0 ≡ get_or old n 0 = ap (λ l. get_or l n 0) set ∙ get_or-set_other old x n (min (2 ^ 32 - 1) (get_or old x 0 + 1)) 0 other in
        let count : count_by (nat_eq n) (take (i + 1) below) ≡ count_by (nat_eq n) (take i below) + 0 =
        counted n below i inside ∙ ap (λ k. count_by (nat_eq n) (take i below) + one_if (nat_eq n k)) (sym is)
        ∙ ap (λ b. count_by (nat_eq n) (take i below) + one_if b) e in
        now ∙ u.each n h ∙ ap (λ k. capped (get_or first n 0 + k)) (let s : count_by (nat_eq n) (take i below) ≡ count_by (nat_eq n) (take (i + 1) below) = omega (arith, count) in s)

pub uses_done : (below : List ℕ) (i : ℕ) (first now : List ℕ) → length below ≤ i → UsesAfter first now (take i below) → AddUses first now below
uses_done below i first now h u n l = u.each n l ∙ ap (λ ks. capped (get_or first n 0 + count_by (nat_eq n) ks)) (take_whole below i h)

-- ---- over all nodes

sum_from : (f : ℕ → ℕ) (ys : List ℕ) (a : ℕ) → fold (λ b x. b + f x) a ys ≡ a + fold (λ b x. b + f x) 0 ys
sum_from f [] a = omega arith
sum_from f (y ∷ ys) a = let here = sum_from f ys (a + f y) in let zero_ = sum_from f ys (0 + f y) in omega (arith, here, zero_)

count_append : (n : ℕ) (xs ys : List ℕ) → count_by (nat_eq n) (xs ++ ys) ≡ count_by (nat_eq n) xs + count_by (nat_eq n) ys
count_append n xs ys = fold-append (λ a x. a + cond (nat_eq n x) 1 0) 0 xs ys ∙ sum_from (λ x. cond (nat_eq n x) 1 0) ys (count_by (nat_eq n) xs)

flat_push : {X Y : Type 0} (f : X → List Y) (xs : List X) (x : X) → flat_map f (xs ++ x ∷ []) ≡ flat_map f xs ++ f x
flat_push f [] x = append_none (f x)
flat_push f (y ∷ xs) x = ap (λ l. f y ++ l) (flat_push f xs x) ∙ sym (append_twice (f y) (flat_map f xs) (f x))

pub all_uses_begun : (nodes : List ProofNode) (uses : List ℕ) → uses ≡ replicate (length nodes) 0 → AreUses nodes [] uses
all_uses_begun nodes uses e = record {
  many = ap length e ∙ length-replicate (length nodes) 0;
  count = λ n h. ap (λ l. get_or l n 0) e ∙ get_or-replicate (length nodes) n 0 0 h;
}

pub all_uses_more : (nodes : List ProofNode) (order : List ℕ) (i k : ℕ) (bs old new : List ℕ) → i < length order → k ≡ get_or order i 0
    → bs ≡ below_of nodes k → length new ≡ length old → AreUses nodes (take i order) old → AddUses old new bs
    → AreUses nodes (take (i + 1) order) new
all_uses_more nodes order i k bs old new inside e b same u more = record {
  many = same ∙ u.many;
  count = λ n h.
      let l : n < length old = (let m = u.many in omega (arith, m, h)) in
      let now : get_or new n 0 ≡ capped (get_or old n 0 + count_by (nat_eq n) bs) = more n l in
      let before : get_or old n 0 ≡ capped (count_by (nat_eq n) (flat_map (below_of nodes) (take i order))) = u.count n h in
      let list : flat_map (below_of nodes) (take (i + 1) order) ≡ flat_map (below_of nodes) (take i order) ++ bs =
      ap (flat_map (below_of nodes)) (take_more order i 0 inside) ∙ flat_push (below_of nodes) (take i order) (get_or order i 0)
      ∙ ap (λ l. flat_map (below_of nodes) (take i order) ++ l) (ap (below_of nodes) (sym e) ∙ sym b) in
      let total : count_by (nat_eq n) (flat_map (below_of nodes) (take (i + 1) order)) ≡ count_by (nat_eq n) (flat_map (below_of nodes) (take i order)) + count_by (nat_eq n) bs =
      ap (count_by (nat_eq n)) list ∙ count_append n (flat_map (below_of nodes) (take i order)) bs in
      added (2 ^ 32 - 1) (get_or new n 0) (get_or old n 0) (count_by (nat_eq n) (flat_map (below_of nodes) (take i order))) (count_by (nat_eq n) bs)
      (count_by (nat_eq n) (flat_map (below_of nodes) (take (i + 1) order))) now before total;
}
  where
    added : (top g o a b t : ℕ) → g ≡ min top (o + b) → o ≡ min top a → t ≡ a + b → g ≡ min top t
    added top g o a b t p q r = omega (arith, p, q, r)

pub all_uses_done : (nodes : List ProofNode) (order : List ℕ) (i : ℕ) (uses : List ℕ) → length order ≤ i → AreUses nodes (take i order) uses → AreUses nodes order uses
all_uses_done nodes order i uses h u = subst (λ l. AreUses nodes l uses) (take_whole order i h) u

-- the nodes that one names are nodes
pub named_inside : (nodes : List ProofNode) (order : List ℕ) (i k : ℕ) (d : ProofNode) (bs : List ℕ) (uses : List ℕ) → IsGraph nodes
    → i < length order → AllByRecursion (λ j. j < length nodes) order → k ≡ get_or order i 0 → bs ≡ (get_or nodes k d).below
    → length uses ≡ length nodes → (bs ≡ below_of nodes k) × AllByRecursion (λ j. j < length uses) bs
named_inside nodes order i k d bs uses graph inside all e b many =
    let here : k < length nodes = subst (λ j. j < length nodes) (sym e) (all_at (λ j. j < length nodes) order i 0 all inside) in
    let same : bs ≡ below_of nodes k = b ∙ ap (λ (n : ProofNode). n.below) (get_or_default nodes k d no_node here) in
    (same, subst (AllByRecursion (λ j. j < length uses)) (sym same) (subst (λ m. AllByRecursion (λ j. j < m) (below_of nodes k)) (sym many) (below_inside nodes k no_node here graph.earlier)))

pub empty_of : {X : Type 0} (xs : List X) → length xs ≡ 0 → xs ≡ []
empty_of [] e = refl
empty_of (x ∷ xs) e = absurd (omega (arith, e))

-- what a slice of a whole vector leaves in it
pub written_back : (len : ℕ) (new old : List ℕ) → length old ≡ len → length new ≡ length old → take len (new ++ drop (length new) old) ≡ new
written_back len new old e f =
    ap (λ xs. take len (new ++ xs)) (drop_whole old (length new) (omega (arith, f))) ∙ ap (take len) (append_none new) ∙ take_whole new len (omega (arith, e, f))
