-- Numbers that are not in a list: as many numbers from 1 as stand in a list are not more than the list is long.
use Rattle.std.proofs.Common.{◌≡◌, ℕ, zero, suc, ◌+◌, ◌-◌, ◌<◌, ◌≤◌, Bool, true, false, eqb, cond, List, [], ◌∷◌, length, get_or, refl, sym, ap, ◌∙◌, inl, inr, arith}
use Rattle.std.proofs.lemmas.Bool.{cases_Bool, cases_lt}
use Rattle.std.proofs.lemmas.Bool.Decides.{nat_tests}
use Rattle.work_vars.specs.Free.{is_used, IsLeastFree}

-- ---- the list without a number

without : ℕ → List ℕ → List ℕ
without m [] = []
without m (x ∷ xs) = cond (eqb m x) (without m xs) (x ∷ without m xs)

without_shorter : (m : ℕ) (xs : List ℕ) → length (without m xs) ≤ length xs
unfolding without
without_shorter m [] = omega arith
without_shorter m (x ∷ xs) =
    let rest = without_shorter m xs in
    elim (cases_Bool (eqb m x)) [ inl h ↦ rw h (omega (arith, rest)) | inr h ↦ rw h (omega (arith, rest)) ]

without_less : (m : ℕ) (xs : List ℕ) → is_used xs m ≡ true → length (without m xs) < length xs
unfolding without
without_less m [] e = absurd (cc)
without_less m (x ∷ xs) e =
    elim (cases_Bool (eqb m x)) [
      | inl h ↦ rw h (omega (arith, without_shorter m xs))
      | inr h ↦ let later : is_used xs m ≡ true = rw h at e in rw h (omega (arith, without_less m xs later))
    ]

without_keeps : (m n : ℕ) (xs : List ℕ) → eqb n m ≡ false → is_used xs n ≡ true → is_used (without m xs) n ≡ true
unfolding without
without_keeps m n [] d e = e
without_keeps m n (x ∷ xs) d e =
    elim (cases_Bool (eqb m x)) [
      | inl h ↦ let other : eqb n x ≡ false = grind (arith, nat_tests, h, d) in let later : is_used xs n ≡ true = rw other at e in rw h (without_keeps m n xs d later)
      | inr h ↦ elim (cases_Bool (eqb n x)) [
        | inl g ↦ rw (h, g) refl
        | inr g ↦ let later : is_used xs n ≡ true = rw g at e in let kept = without_keeps m n xs d later in rw (h, g) kept
      ]
    ]

-- the numbers from 1 to m stand in the list, so it has m items or more
all_used : (m : ℕ) (xs : List ℕ) → ((n : ℕ) → 1 ≤ n → n ≤ m → is_used xs n ≡ true) → m ≤ length xs
all_used zero xs h = omega arith
all_used (suc m) xs h =
    let less = without_less (suc m) xs (h (suc m) (omega arith) (omega arith)) in
    let rest = all_used m (without (suc m) xs) (λ n from to. let other : eqb n (suc m) ≡ false = grind (arith, nat_tests, to) in without_keeps (suc m) n xs other (h n from (omega arith))) in
    omega (arith, less, rest)

pub low_bounded : (xs : List ℕ) (low : ℕ) → 1 ≤ low → ((n : ℕ) → 1 ≤ n → n < low → is_used xs n ≡ true) → low ≤ length xs + 1
low_bounded xs low from h = let most = all_used (low - 1) xs (λ n f t. h n f (omega arith)) in omega (arith, most)

pub is_least : (xs : List ℕ) (n : ℕ) → 1 ≤ n → is_used xs n ≡ false → ((k : ℕ) → 1 ≤ k → k < n → is_used xs k ≡ true) → IsLeastFree xs n
is_least xs n from free below = record {
  from_one = from;
  holds = free;
  least = λ m f e. elim (cases_lt m n) [ inl l ↦ let used : is_used xs m ≡ true = below m f l in absurd (cc) | inr l ↦ l ];
}

-- ---- a window

module _ (xs : List ℕ) (old new : List Bool) (low : ℕ) (marked : (k : ℕ) → k < length old → get_or new k false ≡ is_used xs (low + k)) where
  told : (n : ℕ) → low ≤ n → n < low + length old → get_or new (n - low) false ≡ is_used xs n
  told n from to =
      let k : n - low < length old = omega arith in
      let at : low + (n - low) ≡ n = omega arith in
      marked (n - low) k ∙ ap (is_used xs) at

  pub in_window : (p : ℕ) → p < length old → get_or new p false ≡ false → ((k : ℕ) → k < p → get_or new k false ≡ true)
      → (low ≤ low + p) × (is_used xs (low + p) ≡ false) × ((n : ℕ) → low ≤ n → n < low + p → is_used xs n ≡ true)
  in_window p inside free below =
      let at : (low + p) - low ≡ p = omega arith in
      let here = told (low + p) (omega arith) (omega arith) in
      (omega arith, sym here ∙ ap (λ k. get_or new k false) at ∙ free, λ n from to. sym (told n from (omega arith)) ∙ below (n - low) (omega arith))

  pub no_window : ((k : ℕ) → k < length old → get_or new k false ≡ true) → (n : ℕ) → low ≤ n → n < low + length old → is_used xs n ≡ true
  no_window all n from to = sym (told n from to) ∙ all (n - low) (omega arith)

-- ---- a window from 1

pub least_in : (xs : List ℕ) (old new : List Bool) → ((k : ℕ) → k < length old → get_or new k false ≡ is_used xs (1 + k))
    → (p : ℕ) → p < length old → get_or new p false ≡ false → ((k : ℕ) → k < p → get_or new k false ≡ true) → IsLeastFree xs (1 + p)
least_in xs old new marked p inside free below =
    let w = in_window xs old new 1 marked p inside free below in
    is_least xs (1 + p) w.0 w.1 w.2

-- ---- one window after the other

abbrev pub IsFirstFrom : List ℕ → ℕ → ℕ → Type 0
IsFirstFrom xs low m = (low ≤ m) × (is_used xs m ≡ false) × ((n : ℕ) → low ≤ n → n < m → is_used xs n ≡ true)

all_below : (xs : List ℕ) (low m : ℕ) → ((n : ℕ) → 1 ≤ n → n < low → is_used xs n ≡ true) → IsFirstFrom xs low m → (n : ℕ) → 1 ≤ n → n < m → is_used xs n ≡ true
all_below xs low m h w n from to = elim (cases_lt n low) [ inl l ↦ h n from l | inr l ↦ w.2 n l to ]

pub window_bounded : (xs : List ℕ) (low m : ℕ) → 1 ≤ low → ((n : ℕ) → 1 ≤ n → n < low → is_used xs n ≡ true) → IsFirstFrom xs low m → m ≤ length xs + 1
window_bounded xs low m one h w = low_bounded xs m (omega (arith, one, w.0)) (all_below xs low m h w)

pub window_least : (xs : List ℕ) (low m : ℕ) → 1 ≤ low → ((n : ℕ) → 1 ≤ n → n < low → is_used xs n ≡ true) → IsFirstFrom xs low m → IsLeastFree xs m
window_least xs low m one h w = is_least xs m (omega (arith, one, w.0)) w.1 (all_below xs low m h w)

pub window_passed : (xs : List ℕ) (low wide : ℕ) → ((n : ℕ) → 1 ≤ n → n < low → is_used xs n ≡ true) → ((n : ℕ) → low ≤ n → n < low + wide → is_used xs n ≡ true)
    → (n : ℕ) → 1 ≤ n → n < low + wide → is_used xs n ≡ true
window_passed xs low wide h w n from to = elim (cases_lt n low) [ inl l ↦ h n from l | inr l ↦ w n l to ]
