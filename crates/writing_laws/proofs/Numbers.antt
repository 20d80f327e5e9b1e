-- Numbers that are not in a list, and the digits of numbers past a bound.
use Rattle.std.specs.Prelude.{◌≡◌, ◌+◌, ◌-◌, ◌*◌, ◌/◌, ◌%◌, ◌^◌, ◌<◌, ◌≤◌, ◌==◌, ◌⊎◌, ℕ, zero, suc, Bool, true, false, List, [], ◌∷◌, length, decimal, refl}
use Rattle.std.specs.List.{list_any}
use Rattle.std.specs.Fmt.{digit_glyph, digits_onto, digits}
use Rattle.std.proofs.Common.{sym, ap, ◌∙◌, cond, arith, inl, inr, lt-ltb}
use Rattle.std.proofs.lemmas.Bool.{cases_Bool, cases_lt}
use Rattle.std.proofs.lemmas.Bool.Decides.{nat_tests}

abbrev pub stands_in : List ℕ → ℕ → Bool
stands_in xs n = list_any (λ k. n == k) xs

-- ---- the list without a number

without : ℕ → List ℕ → List ℕ
without m [] = []
without m (x ∷ xs) = cond (m == x) (without m xs) (x ∷ without m xs)

without_shorter : (m : ℕ) (xs : List ℕ) → length (without m xs) ≤ length xs
unfolding without
without_shorter m [] = omega arith
without_shorter m (x ∷ xs) =
    let rest = without_shorter m xs in
    elim (cases_Bool (m == x)) [ inl h ↦ rw h (omega (arith, rest)) | inr h ↦ rw h (omega (arith, rest)) ]

without_less : (m : ℕ) (xs : List ℕ) → stands_in xs m ≡ true → length (without m xs) < length xs
unfolding without
without_less m [] e = absurd (cc)
without_less m (x ∷ xs) e =
    elim (cases_Bool (m == x)) [
      | inl h ↦ rw h (omega (arith, without_shorter m xs))
      | inr h ↦ let later : stands_in xs m ≡ true = rw h at e in rw h (omega (arith, without_less m xs later))
    ]

without_keeps : (m n : ℕ) (xs : List ℕ) → (n == m) ≡ false → stands_in xs n ≡ true → stands_in (without m xs) n ≡ true
unfolding without
without_keeps m n [] d e = e
without_keeps m n (x ∷ xs) d e =
    elim (cases_Bool (m == x)) [
      | inl h ↦ let other : (n == x) ≡ false = grind (arith, nat_tests, h, d) in let later : stands_in xs n ≡ true = rw other at e in rw h (without_keeps m n xs d later)
      | inr h ↦ elim (cases_Bool (n == x)) [
        | inl g ↦ rw (h, g) refl
        | inr g ↦ let later : stands_in xs n ≡ true = rw g at e in let kept = without_keeps m n xs d later in rw (h, g) kept
      ]
    ]

-- the numbers from 1 to m stand in the list, so it has m items or more
pub all_stand : (m : ℕ) (xs : List ℕ) → ((n : ℕ) → 1 ≤ n → n ≤ m → stands_in xs n ≡ true) → m ≤ length xs
all_stand zero xs h = omega arith
all_stand (suc m) xs h =
    let less = without_less (suc m) xs (h (suc m) (omega arith) (omega arith)) in
    let rest = all_stand m (without (suc m) xs) (λ n from to. let other : (n == suc m) ≡ false = grind (arith, nat_tests, to) in without_keeps (suc m) n xs other (h n from (omega arith))) in
    omega (arith, less, rest)

-- a number from 1 that does not pass, or all up to a bound pass
abbrev pub SearchedTo : (ℕ → Bool) → ℕ → Type 0
SearchedTo p m = ((n : ℕ) × (1 ≤ n) × (n ≤ m) × (p n ≡ false)) ⊎ ((n : ℕ) → 1 ≤ n → n ≤ m → p n ≡ true)

pub searched_to : (p : ℕ → Bool) (m : ℕ) → SearchedTo p m
searched_to p zero = inr (λ n from to. absurd (omega (arith, from, to)))
searched_to p (suc m) = elim (searched_to p m) [
  | inl f ↦ inl (f.0, f.1, omega (arith, f.2), f.3)
  | inr all ↦ elim (cases_Bool (p (suc m))) [
    | inl e ↦ inr (λ n from to. elim (cases_lt m n) [ inl l ↦ (let last : suc m ≡ n = omega arith in last_too n last e) | inr l ↦ all n from l ])
    | inr e ↦ inl (suc m, omega arith, omega arith, e)
  ]
]
  where
    last_too : (n : ℕ) → suc m ≡ n → p (suc m) ≡ true → p n ≡ true
    last_too n is e = ap p (sym is) ∙ e

-- ---- a number past a bound with these last digits

lift : ℕ → ℕ → ℕ → ℕ
lift b zero r = suc b
lift b (suc k) r = lift b k (r / 10) * 10 + r % 10

lift_above : (b k r : ℕ) → b < lift b k r
unfolding lift
lift_above b zero r = omega arith
lift_above b (suc k) r = let rest = lift_above b k (r / 10) in omega (arith, rest)

-- the number that digits spell, behind a number
pub value_on : ℕ → List ℕ → ℕ
value_on n [] = n
value_on n (c ∷ cs) = value_on (n * 10 + (c - 48)) cs

one_digit : (k n : ℕ) (acc : List ℕ) → (n / 10 == 0) ≡ false → digits_onto (suc k) 10 false n acc ≡ digits_onto k 10 false (n / 10) (digit_glyph false (n % 10) ∷ acc)
one_digit k n acc e = rw e refl

glyph_is : (d : ℕ) → d < 10 → digit_glyph false d ≡ 48 + d
glyph_is d l = rw (lt-ltb d 10 l) refl

module _ (b : ℕ) where
  at_digit : (k r n : ℕ) (acc : List ℕ) → n ≡ lift b k (r / 10) * 10 + r % 10
      → digits_onto (suc k) 10 false n acc ≡ digits_onto k 10 false (lift b k (r / 10)) ((48 + r % 10) ∷ acc)
  at_digit k r n acc e =
      let above = lift_above b k (r / 10) in
      let front : n / 10 ≡ lift b k (r / 10) = omega (arith, e) in
      let last : n % 10 ≡ r % 10 = omega (arith, e) in
      let more : (n / 10 == 0) ≡ false = other (n / 10) (omega (arith, front, above)) in
      one_digit k n acc more
      ∙ ap (λ q. digits_onto k 10 false q (digit_glyph false (n % 10) ∷ acc)) front
      ∙ ap (λ d. digits_onto k 10 false (lift b k (r / 10)) (d ∷ acc)) (glyph_is (n % 10) (omega arith) ∙ ap (λ d. 48 + d) last)
    where
      other : (q : ℕ) → 0 < q → (q == 0) ≡ false
      other q l = grind (arith, nat_tests, l)

  onto_value : (k r : ℕ) (acc : List ℕ) → r < 10 ^ k → value_on 0 (digits_onto k 10 false (lift b k r) acc) ≡ value_on r acc
  unfolding lift value_on
  onto_value zero r acc h = ap (λ n. value_on n acc) (zero_is r h)
    where
      zero_is : (r : ℕ) → r < 10 ^ 0 → 0 ≡ r
      zero_is r h = omega (arith, h)
  onto_value (suc k) r acc h =
      ap (value_on 0) (at_digit k r (lift b k (r / 10) * 10 + r % 10) acc refl)
      ∙ onto_value k (r / 10) ((48 + r % 10) ∷ acc) (less k r h)
      ∙ ap (λ n. value_on n acc) (whole r)
    where
      less : (k r : ℕ) → r < 10 ^ suc k → r / 10 < 10 ^ k
      less k r h = omega (arith, h)

      whole : (r : ℕ) → r / 10 * 10 + (48 + r % 10 - 48) ≡ r
      whole r = omega arith

  decimal_is : (n : ℕ) → decimal n ≡ digits_onto 64 10 false n []
  unfolding digits
  decimal_is n = refl

  decimal_by : (k r : ℕ) → k ≡ 64 → r < 10 ^ k → value_on 0 (decimal (lift b k r)) ≡ value_on r []
  decimal_by k r e h = ap (value_on 0) (decimal_is (lift b k r) ∙ ap (λ j. digits_onto j 10 false (lift b k r) []) (sym e)) ∙ onto_value k r [] h

  -- a number past the bound, so that this number is read from its name
  pub record IsPast (r : ℕ) : Type 0 where
    pub number : ℕ
    pub above : b < number
    pub read : value_on 0 (decimal number) ≡ r

  pub past : (r : ℕ) → r < 10 ^ 64 → IsPast r
  unfolding value_on
  past r h = record { number = lift b 64 r; above = lift_above b 64 r; read = decimal_by 64 r refl h }
