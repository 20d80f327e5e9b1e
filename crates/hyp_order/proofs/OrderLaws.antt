-- Orders of the same numbers: the first, the last, and the next one.
use Rattle.std.specs.List.Sorted.{IsPermutation}
use Rattle.std.proofs.Common.{◌≡◌, ℕ, ◌+◌, ◌<◌, ◌≤◌, ◌⊎◌, cond, eqb, List, [], ◌∷◌, sum_by, refl, sym, ap, ◌∙◌, subst, inl, inr, arith}
use Rattle.std.proofs.lemmas.Bool.{cases_Bool}
use Rattle.std.proofs.lemmas.Bool.Decides.{nat_tests}
use Rattle.std.proofs.lemmas.List.Sorted.{sum_by-IsPermutation}
use Rattle.std.proofs.lemmas.List.Sums.{sum_by-cons}
use Rattle.hyp_order.specs.Orders.{ComesBefore}
use Rattle.hyp_order.specs.Falls.{AtMost, Falls}
use Rattle.hyp_order.proofs.FallLaws.{AtLeast, Rises}

-- ---- how often a number stands in a list

abbrev pub one : ℕ → ℕ → ℕ
one v x = cond (eqb x v) 1 0

abbrev pub count : ℕ → List ℕ → ℕ
count v [] = 0
count v (x ∷ xs) = one v x + count v xs

count-sum : (v : ℕ) (xs : List ℕ) → sum_by (one v) xs ≡ count v xs
count-sum v [] = refl
count-sum v (x ∷ xs) = sum_by-cons (one v) x xs ∙ ap (λ n. one v x + n) (count-sum v xs)

abbrev pub SameCounts : List ℕ → List ℕ → Type 0
SameCounts xs ys = (v : ℕ) → count v xs ≡ count v ys

pub same_counts : (xs ys : List ℕ) → IsPermutation xs ys → SameCounts xs ys
same_counts xs ys h v = sym (count-sum v xs) ∙ sym (sum_by-IsPermutation (one v) xs ys h) ∙ count-sum v ys

pub one-self : (v : ℕ) → one v v ≡ 1
one-self v = grind (arith, nat_tests)

-- one of two cases, at the head of a list
pub here_or : (v x : ℕ) → (x ≡ v) ⊎ (one v x ≡ 0)
here_or v x = elim (cases_Bool (eqb x v)) [ inl h ↦ inl (grind (arith, nat_tests)) | inr h ↦ inr (rw h refl) ]

pub head_counted : (x : ℕ) (xs ys : List ℕ) → SameCounts ys (x ∷ xs) → 0 < count x ys
head_counted x xs ys h = omega (arith, h x, one-self x)

pub tails_same : (x : ℕ) (xs ys : List ℕ) → SameCounts (x ∷ xs) (x ∷ ys) → SameCounts xs ys
tails_same x xs ys h v = omega (arith, h v)

pub counted_at_most : (b v : ℕ) (xs : List ℕ) → AtMost b xs → 0 < count v xs → v ≤ b
counted_at_most b v [] h k = absurd (omega arith)
counted_at_most b v (x ∷ xs) h k =
    elim (here_or v x) [ inl e ↦ omega (arith, e, h.0) | inr e ↦ counted_at_most b v xs h.1 (omega (arith, e, k)) ]

-- ---- the first order

counted_at_least : (b v : ℕ) (xs : List ℕ) → AtLeast b xs → 0 < count v xs → b ≤ v
counted_at_least b v [] h k = absurd (omega arith)
counted_at_least b v (x ∷ xs) h k =
    elim (here_or v x) [ inl e ↦ omega (arith, e, h.0) | inr e ↦ counted_at_least b v xs h.1 (omega (arith, e, k)) ]

pub counted_from_head : (a v : ℕ) (xs : List ℕ) → AtLeast a xs → 0 < count v (a ∷ xs) → a ≤ v
counted_from_head a v xs h k =
    elim (here_or v a) [ inl e ↦ omega (arith, e) | inr e ↦ counted_at_least a v xs h (omega (arith, e, k)) ]

pub le_cases : (a b : ℕ) → a ≤ b → (a < b) ⊎ (a ≡ b)
le_cases a b h = elim (cases_Bool (eqb a b)) [ inl e ↦ inr (grind (arith, nat_tests)) | inr e ↦ inl (grind (arith, nat_tests)) ]

pub rises_first : (xs zs : List ℕ) → Rises xs → SameCounts xs zs → (xs ≡ zs) ⊎ ComesBefore xs zs
rises_first [] [] r s = inl refl
rises_first [] (z ∷ zs) r s = absurd (omega (arith, head_counted z zs [] s))
rises_first (a ∷ xs) [] r s = absurd (omega (arith, head_counted a xs [] (λ v. sym (s v))))
rises_first (a ∷ xs) (z ∷ zs) r s =
    elim (le_cases a z (counted_from_head a z xs r.0 (head_counted z zs (a ∷ xs) s))) [
      | inl l ↦ inr (inl l)
      | inr e ↦
          let s' : SameCounts xs zs = tails_same a xs zs (subst (λ x. SameCounts (a ∷ xs) (x ∷ zs)) (sym e) s) in
          elim (rises_first xs zs r.1 s') [ inl same ↦ inl (cc) | inr b ↦ inr (inr (e, b)) ]
    ]

-- ---- the last order

pub falls_last : (ds zs : List ℕ) → Falls ds → SameCounts ds zs → ComesBefore ds zs → ⊥
falls_last [] zs f s b = b
falls_last (d ∷ ds) [] f s b = b
falls_last (d ∷ ds) (z ∷ zs) f s (inl l) =
    let k : 0 < count z (d ∷ ds) = head_counted z zs (d ∷ ds) s in
    let most : z ≤ d = elim (here_or z d) [ inl e ↦ omega (arith, e) | inr e ↦ counted_at_most d z ds f.0 (omega (arith, e, k)) ] in
    omega arith
falls_last (d ∷ ds) (z ∷ zs) f s (inr r) =
    falls_last ds zs f.1 (tails_same d ds zs (subst (λ x. SameCounts (d ∷ ds) (x ∷ zs)) (sym r.0) s)) r.1
