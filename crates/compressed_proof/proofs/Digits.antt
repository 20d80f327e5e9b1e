-- The leading digits of a number, one by one.
use Rattle.std.proofs.Common.{◌≡◌, ◌≤◌, ◌<◌, ℕ, zero, suc, ◌+◌, ◌-◌, ◌/◌, ◌%◌, List, [], ◌∷◌, ◌++◌, refl, sym, ap, ◌∙◌, arith, subst, append_assoc}
use Rattle.proof_model.specs.ProofCode.{digits}

digits_enough : (k j v : ℕ) → v ≤ k → v ≤ j → digits k v ≡ digits j v
digits_enough zero zero v h i = refl
digits_enough zero (suc j) zero h i = refl
digits_enough zero (suc j) (suc v) h i = absurd (omega arith)
digits_enough (suc k) zero zero h i = refl
digits_enough (suc k) zero (suc v) h i = absurd (omega arith)
digits_enough (suc k) (suc j) zero h i = refl
digits_enough (suc k) (suc j) (suc v) h i = ap (λ (ds : List ℕ). ds ++ (85 + v % 5) ∷ []) (digits_enough k j (v / 5) (omega arith) (omega arith))

digits_last : (v : ℕ) → digits (suc v) (suc v) ≡ digits (v / 5) (v / 5) ++ (85 + v % 5) ∷ []
digits_last v = ap (λ (ds : List ℕ). ds ++ (85 + v % 5) ∷ []) (digits_enough v (v / 5) (v / 5) (omega arith) (omega arith))

-- a number above 0 has the digits of a fifth of the one before it, and one more
pub digits_step : (v : ℕ) → 0 < v → digits v v ≡ digits ((v - 1) / 5) ((v - 1) / 5) ++ (85 + (v - 1) % 5) ∷ []
digits_step v h =
    let e : suc (v - 1) ≡ v = omega arith in
    subst (λ (n : ℕ). digits n n ≡ digits ((v - 1) / 5) ((v - 1) / 5) ++ (85 + (v - 1) % 5) ∷ []) e (digits_last (v - 1))

-- behind what was written before
pub digits_pushed : (out more new : List ℕ) (v : ℕ) → 0 < v → more ≡ out ++ digits ((v - 1) / 5) ((v - 1) / 5) → new ≡ more ++ (85 + (v - 1) % 5) ∷ [] → new ≡ out ++ digits v v
digits_pushed out more new v h e n =
    n ∙ ap (λ (x : List ℕ). x ++ (85 + (v - 1) % 5) ∷ []) e ∙ append_assoc out (digits ((v - 1) / 5) ((v - 1) / 5)) ((85 + (v - 1) % 5) ∷ []) ∙ ap (λ (x : List ℕ). out ++ x) (sym (digits_step v h))
