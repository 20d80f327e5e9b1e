-- Numbers of what passes a test, and the first of them.
use Rattle.std.proofs.Common.{◌≡◌, ℕ, suc, ◌+◌, ◌<◌, ◌^◌, ◌==◌, Bool, true, false, List, [], ◌∷◌, ◌++◌, cond, length, find, position, slice_get, Some}
use Rattle.std.proofs.Common.{refl, sym, ap, subst, ◌∙◌, inl, inr, arith}
use Rattle.std.specs.List.{position_from}
use Rattle.std.specs.Option.{option_map_or}
use Rattle.std.proofs.lemmas.Bool.{cases_Bool}
use Rattle.std.proofs.lemmas.Bool.Decides.{nat_tests}
use Rattle.std.proofs.lemmas.Iterator.Adapters.{position_from-zero}
use Rattle.std.proofs.lemmas.List.{length-append}
use Rattle.mm_base.specs.declared.tree.Tree.{Tree}
use Rattle.mm_base.specs.declared.rows.Rows.{Rows}
use Rattle.mm_base.specs.Rows.{row_at}
use Rattle.solve_model.specs.Trees.{same_tree}
use Rattle.solve_laws.specs.Replacements.{SameTreeDecides}
use Rattle.hyp_derive.specs.Hashing.{hash_of}
use Rattle.hyp_derive.specs.Indexing.{numbers_from, has_hash, is_at, IsIndexOf}

-- ---- one element more

module _ {X : Type 0} (test : X → Bool) where
  behind : (b c : Bool) (at n : ℕ) (ns : List ℕ) → cond b (at ∷ cond c (ns ++ n ∷ []) ns) (cond c (ns ++ n ∷ []) ns) ≡ cond c (cond b (at ∷ ns) ns ++ n ∷ []) (cond b (at ∷ ns) ns)
  behind true true at n ns = refl
  behind true false at n ns = refl
  behind false true at n ns = refl
  behind false false at n ns = refl

  numbers_push : (xs : List X) (x : X) (k : ℕ) → numbers_from test k (xs ++ x ∷ []) ≡ cond (test x) (numbers_from test k xs ++ (k + length xs) ∷ []) (numbers_from test k xs)
  numbers_push [] x k = let same : k ≡ k + 0 = omega arith in ap (λ (n : ℕ). cond (test x) (n ∷ []) []) same
  numbers_push (y ∷ ys) x k =
      let ns = numbers_from test (k + 1) ys in
      let n = k + 1 + length ys in
      let next : k + 1 + length ys ≡ k + suc (length ys) = omega arith in
      ap (λ (ms : List ℕ). cond (test y) (k ∷ ms) ms) (numbers_push ys x (k + 1)) ∙ behind (test y) (test x) k n ns
      ∙ ap (λ (m : ℕ). cond (test x) (cond (test y) (k ∷ ns) ns ++ m ∷ []) (cond (test y) (k ∷ ns) ns)) next

-- ---- the first that passes

-- the rest stands in the list from a place on
abbrev IsTail : {X : Type 0} → List X → ℕ → List X → Type 0
IsTail all k rest = (j : ℕ) → slice_get all (k + j) ≡ slice_get rest j

tail_first : {X : Type 0} (all : List X) (k : ℕ) (x : X) (rest : List X) → IsTail all k (x ∷ rest) → slice_get all k ≡ Some x
tail_first all k x rest h = let same : k ≡ k + 0 = omega arith in ap (slice_get all) same ∙ h 0

tail_rest : {X : Type 0} (all : List X) (k : ℕ) (x : X) (rest : List X) → IsTail all k (x ∷ rest) → IsTail all (k + 1) rest
tail_rest all k x rest h j = let same : k + 1 + j ≡ k + suc j = omega arith in ap (slice_get all) same ∙ h (suc j)

all_tail : {X : Type 0} (all : List X) → IsTail all 0 all
all_tail all j = let same : 0 + j ≡ j = omega arith in ap (slice_get all) same

module _ {X : Type 0} (p sel : X → Bool) (selected : (x : X) → p x ≡ true → sel x ≡ true) (all : List X) where
  abbrev passes_at : ℕ → Bool
  passes_at n = option_map_or p (slice_get all n) false

  found_from : (xs : List X) (k : ℕ) → IsTail all k xs → find passes_at (numbers_from sel k xs) ≡ position_from p k xs
  found_from [] k h = refl
  found_from (x ∷ xs) k h = elim (cases_Bool (p x)) [
    | inl e ↦
        let here : passes_at k ≡ true = ap (λ o. option_map_or p o false) (tail_first all k x xs h) ∙ e in
        let chosen : sel x ≡ true = selected x e in
        ap (λ b. find passes_at (cond b (k ∷ numbers_from sel (k + 1) xs) (numbers_from sel (k + 1) xs))) chosen ∙ ap (λ b. cond b (Some k) (find passes_at (numbers_from sel (k + 1) xs))) here
        ∙ ap (λ b. cond b (Some k) (position_from p (k + 1) xs)) (sym e)
    | inr e ↦
        let here : passes_at k ≡ false = ap (λ o. option_map_or p o false) (tail_first all k x xs h) ∙ e in
        passed (sel x) here ∙ found_from xs (k + 1) (tail_rest all k x xs h) ∙ ap (λ b. cond b (Some k) (position_from p (k + 1) xs)) (sym e)
  ]
    where
      passed : (b : Bool) → passes_at k ≡ false → find passes_at (cond b (k ∷ numbers_from sel (k + 1) xs) (numbers_from sel (k + 1) xs)) ≡ find passes_at (numbers_from sel (k + 1) xs)
      passed true here = ap (λ b. cond b (Some k) (find passes_at (numbers_from sel (k + 1) xs))) here
      passed false here = refl

  pub found_at : find passes_at (numbers_from sel 0 all) ≡ position p all
  found_at = found_from all 0 (all_tail all) ∙ sym (position_from-zero p all)

-- ---- trees by their hashes

same_hash : (decides : SameTreeDecides) (t u : Tree) → same_tree t u ≡ true → (hash_of u == hash_of t) ≡ true
same_hash decides t u e = let same : hash_of u ≡ hash_of t = ap hash_of (sym ((decides t u).0 e)) in grind (arith, nat_tests)

pub first_is : (decides : SameTreeDecides) (places : Rows ℕ) (trees slice : List Tree) (row : List ℕ) (t : Tree) (hash : ℕ) → IsIndexOf places trees → slice ≡ trees → hash ≡ hash_of t
    → row ≡ row_at places hash → find (is_at slice t) row ≡ position (same_tree t) trees
first_is decides places trees slice row t hash index same is at =
    ap (λ (xs : List Tree). find (is_at xs t) row) same ∙ ap (find (is_at trees t)) (at ∙ index.at hash ∙ ap (λ q. numbers_from (has_hash q) 0 trees) is)
    ∙ found_at (same_tree t) (has_hash (hash_of t)) (same_hash decides t) trees

pub index_more : (places places' : Rows ℕ) (trees trees' : List Tree) (t : Tree) (hash place : ℕ) → IsIndexOf places trees → trees' ≡ trees ++ t ∷ [] → hash ≡ hash_of t → place ≡ length trees
    → place + 1 < 2 ^ 32 → ((q : ℕ) → row_at places' q ≡ cond (hash == q) (row_at places q ++ place ∷ []) (row_at places q)) → IsIndexOf places' trees'
index_more places places' trees trees' t hash place index more is at room added = subst (IsIndexOf places') (sym more) (record {
  small = omega (arith, length-append trees (t ∷ []), at, room);
  at = λ q.
      let start : 0 + length trees ≡ place = omega (arith, at) in
      added q ∙ ap (λ (ns : List ℕ). cond (hash == q) (ns ++ place ∷ []) ns) (index.at q)
      ∙ ap (λ (h : ℕ). cond (h == q) (numbers_from (has_hash q) 0 trees ++ place ∷ []) (numbers_from (has_hash q) 0 trees)) is
      ∙ ap (λ (n : ℕ). cond (hash_of t == q) (numbers_from (has_hash q) 0 trees ++ n ∷ []) (numbers_from (has_hash q) 0 trees)) (sym start)
      ∙ sym (numbers_push (has_hash q) trees t 0);
})

pub index_same : (places places' : Rows ℕ) (trees trees' : List Tree) → IsIndexOf places trees → trees' ≡ trees → ((q : ℕ) → row_at places' q ≡ row_at places q) → IsIndexOf places' trees'
index_same places places' trees trees' index same kept = subst (IsIndexOf places') (sym same) (record { small = index.small; at = λ q. kept q ∙ index.at q })
