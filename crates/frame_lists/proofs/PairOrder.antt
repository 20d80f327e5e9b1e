-- Pairs of numbers, by the first and then the second.
use Rattle.std.proofs.Common.{◌≡◌, ℕ, Bool, true, false, ◌&&◌, refl, sym, ap, ◌∙◌, arith, inl, inr, eqb, ltb}
use Rattle.std.specs.Cmp.{IsTotalOrder, IsEquivalence, tied_then}
use Rattle.std.specs.declared.cmp.Ordering.{Ordering}
use Rattle.std.specs.Ordering.{nat_cmp, ordering_then, eq_by_cmp, is_eq}
use Rattle.std.proofs.lemmas.Cmp.{nat_cmp_total, on_total, then_total, eq_by_cmp_equiv}
use Rattle.std.proofs.lemmas.Bool.{cases_Bool}
use Rattle.std.proofs.lemmas.Bool.Decides.{nat_tests}

abbrev pub pair_cmp : ℕ × ℕ → ℕ × ℕ → Ordering
pair_cmp x y = ordering_then (nat_cmp x.0 y.0) (nat_cmp x.1 y.1)

pub pair_total : IsTotalOrder pair_cmp
pair_total = then_total (on_total (λ (x : ℕ × ℕ). x.0) nat_cmp_total) (on_total (λ (x : ℕ × ℕ). x.1) nat_cmp_total)

abbrev pub pair_eq : ℕ × ℕ → ℕ × ℕ → Bool
pair_eq x y = eqb x.0 y.0 && eqb x.1 y.1

nat_ties : (x y : ℕ) → eqb x y ≡ is_eq (nat_cmp x y)
nat_ties x y =
    elim (cases_Bool (ltb x y)) [
      | inl l ↦ let n : eqb x y ≡ false = grind (arith, nat_tests) in rw (l, n) refl
      | inr l ↦ elim (cases_Bool (eqb x y)) [ inl e ↦ rw (l, e) refl | inr e ↦ rw (l, e) refl ]
    ]

pub pair_ties : (x y : ℕ × ℕ) → pair_eq x y ≡ eq_by_cmp pair_cmp x y
pair_ties x y = ap (λ b. b && eqb x.1 y.1) (nat_ties x.0 y.0) ∙ ap (λ b. is_eq (nat_cmp x.0 y.0) && b) (nat_ties x.1 y.1) ∙ tied_then (nat_cmp x.0 y.0) (nat_cmp x.1 y.1)

both : (a b : Bool) → (a && b) ≡ true → (a ≡ true) × (b ≡ true)
both true true e = (refl, refl)
both true false e = absurd cc
both false b e = absurd cc

pub pair_same : (x y : ℕ × ℕ) → pair_eq x y ≡ true → x ≡ y
pair_same x y e =
    let parts = both (eqb x.0 y.0) (eqb x.1 y.1) e in
    let l = parts.0 in let r = parts.1 in
    let a : x.0 ≡ y.0 = grind (arith, nat_tests) in
    let b : x.1 ≡ y.1 = grind (arith, nat_tests) in
    let pair : ℕ → ℕ → ℕ × ℕ = λ i j. (i, j) in
    ap (λ i. pair i x.1) a ∙ ap (λ j. pair y.0 j) b

pub pair_equivalence : IsEquivalence pair_eq
pair_equivalence =
    let by = eq_by_cmp_equiv pair_total in
    record {
      refl = λ x. pair_ties x x ∙ by.refl x;
      symm = λ x y. pair_ties x y ∙ by.symm x y ∙ sym (pair_ties y x);
      congr = λ x y z h. pair_ties x z ∙ by.congr x y z (sym (pair_ties x y) ∙ h) ∙ sym (pair_ties y z);
    }
