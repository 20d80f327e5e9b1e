-- How many numbers of a range pass, where those below one pass and the others do not; and numbers that rise.
use Rattle.std.specs.Prelude.{◌≡◌, ◌+◌, ◌<◌, ◌≤◌, ◌↔◌, ℕ, zero, suc, Bool, true, false, nat_lt, List, length, count_by, refl}
use Rattle.std.specs.List.{range_with_len, AllWithin}
use Rattle.std.specs.List.Sorted.{IsNonDecreasingBy}
use Rattle.std.proofs.Common.{arith, ap, ◌∙◌, cond, get_or, inl, inr}
use Rattle.std.proofs.lemmas.Bool.{cases_Bool}
use Rattle.std.proofs.lemmas.Bool.Decides.{nat_tests}
use Rattle.std.proofs.lemmas.List.Sums.{sum_by-cons}
use Rattle.std.proofs.lemmas.Option.{slice_get-get_or}
use Rattle.mm_model.specs.BookFacts.{Rise}

module _ (p : ℕ → Bool) where
  one_more : (a n : ℕ) → count_by p (range_with_len a (suc n)) ≡ cond (p a) 1 0 + count_by p (range_with_len (a + 1) n)
  one_more a n = sum_by-cons (λ x. cond (p x) 1 0) a (range_with_len (a + 1) n)

  pub passing_first : (a k n : ℕ) → k ≤ n → ((i : ℕ) → a ≤ i → i < a + k → p i ≡ true) → ((i : ℕ) → a + k ≤ i → i < a + n → p i ≡ false)
      → count_by p (range_with_len a n) ≡ k
  passing_first a zero zero l pass fail = refl
  passing_first a zero (suc n) l pass fail =
      let here = fail a (omega arith) (omega arith) in
      let rest : count_by p (range_with_len (a + 1) n) ≡ 0 = passing_first (a + 1) zero n (omega arith) (λ i m h. pass i (omega arith) (omega arith)) (λ i m h. fail i (omega arith) (omega arith)) in
      one_more a n ∙ ap (λ b. cond b 1 0 + count_by p (range_with_len (a + 1) n)) here ∙ (omega (arith, rest))
  passing_first a (suc k) zero l pass fail = absurd (omega arith)
  passing_first a (suc k) (suc n) l pass fail =
      let here = pass a (omega arith) (omega arith) in
      let rest : count_by p (range_with_len (a + 1) n) ≡ k = passing_first (a + 1) k n (omega arith) (λ i m h. pass i (omega arith) (omega arith)) (λ i m h. fail i (omega arith) (omega arith)) in
      one_more a n ∙ ap (λ b. cond b 1 0 + count_by p (range_with_len (a + 1) n)) here ∙ (omega (arith, rest))

not_less : (i j : ℕ) → nat_lt i j ≡ false → i ≤ j → i ≡ j
not_less i j e l = grind (arith, nat_tests)

less : (i j : ℕ) → nat_lt i j ≡ true → i < j
less i j e = grind (arith, nat_tests)

not_below : (i j : ℕ) → nat_lt i j ≡ false → j ≤ i
not_below i j e = grind (arith, nat_tests)

past : (n m : ℕ) → nat_lt n m ≡ false → n < m → ⊥
past n m e l = absurd (let below = not_below n m e in omega (arith, below))

pub non_decreasing : (ns : List ℕ) → Rise ns → IsNonDecreasingBy (λ (n : ℕ). n) ns
non_decreasing ns rise i j d l m = elim (cases_Bool (nat_lt i j)) [
  | inl e ↦
      let one = less i j e in
      let up : get_or ns i d < get_or ns j d = rise i j (get_or ns i d) (get_or ns j d) (slice_get-get_or ns i d (omega arith)) (slice_get-get_or ns j d m) one in
      omega (arith, up)
  | inr e ↦ let same : get_or ns i d ≡ get_or ns j d = ap (λ k. get_or ns k d) (not_less i j e l) in omega (arith, same)
]

-- k parts the numbers into those below a place and the others
pub parts : (ns : List ℕ) (place k : ℕ) → AllWithin (λ n. nat_lt n place ≡ true) ns 0 k → AllWithin (λ n. nat_lt n place ≡ false) ns k (length ns)
    → (l : ℕ) → l < length ns → (l < k) ↔ (get_or ns l 0 < place)
parts ns place k below above l within = (
  λ h. less (get_or ns l 0) place (below l 0 (omega arith) h),
  λ h. elim (cases_Bool (nat_lt l k)) [
    | inl e ↦ less l k e
    | inr e ↦ absurd (past (get_or ns l 0) place (above l 0 (not_below l k e) within) h)
  ],
)
