-- Bytes without the white space at their end.
use Rattle.std.proofs.Common.{◌≡◌, ℕ, suc, ◌-◌, ◌<◌, ◌≤◌, Bool, true, false, cond, List, [], ◌∷◌, ◌++◌, length, take, get_or, refl, sym, ap, ◌∙◌, subst, arith}
use Rattle.std.proofs.Math.Seq.{take-suc}
use Rattle.mm_model.specs.Words.{is_white}
use Rattle.sheet_text.specs.Lines.{trim_end, before_trimmed}

-- the bytes behind these are white
pub record Trims (bytes : List ℕ) (len : ℕ) : Type 0 where
  pub eq : trim_end (take len bytes) ≡ trim_end bytes

trim-white : (xs : List ℕ) (w : ℕ) → is_white w ≡ true → trim_end (xs ++ w ∷ []) ≡ trim_end xs
trim-white [] w e = ap (λ (b : Bool). cond b [] (w ∷ [])) e
trim-white (x ∷ xs) w e = ap (λ (l : List ℕ). before_trimmed x l) (trim-white xs w e)

before-some : (x : ℕ) (ys : List ℕ) (w : ℕ) → before_trimmed x (ys ++ w ∷ []) ≡ x ∷ (ys ++ w ∷ [])
before-some x [] w = refl
before-some x (y ∷ ys) w = refl

trim-inked : (xs : List ℕ) (w : ℕ) → is_white w ≡ false → trim_end (xs ++ w ∷ []) ≡ xs ++ w ∷ []
trim-inked [] w e = ap (λ (b : Bool). cond b [] (w ∷ [])) e
trim-inked (x ∷ xs) w e = ap (λ (l : List ℕ). before_trimmed x l) (trim-inked xs w e) ∙ before-some x xs w

split-last : (bytes : List ℕ) (len : ℕ) → 0 < len → len ≤ length bytes → take len bytes ≡ take (len - 1) bytes ++ get_or bytes (len - 1) 0 ∷ []
split-last bytes len some within =
    let last : len - 1 < length bytes = omega arith in
    let len_is : suc (len - 1) ≡ len = omega arith in
    subst (λ (k : ℕ). take k bytes ≡ take (len - 1) bytes ++ get_or bytes (len - 1) 0 ∷ []) len_is (take-suc bytes (len - 1) 0 last)

-- one white byte fewer
pub trims-less : (bytes : List ℕ) (len : ℕ) → 0 < len → len ≤ length bytes → is_white (get_or bytes (len - 1) 0) ≡ true → Trims bytes len → Trims bytes (len - 1)
trims-less bytes len some within e h = record { eq = sym (trim-white (take (len - 1) bytes) (get_or bytes (len - 1) 0) e) ∙ ap trim_end (sym (split-last bytes len some within)) ∙ h.eq }

pub trims-done : (bytes : List ℕ) (len : ℕ) → 0 < len → len ≤ length bytes → is_white (get_or bytes (len - 1) 0) ≡ false → Trims bytes len → take len bytes ≡ trim_end bytes
trims-done bytes len some within e h =
    split-last bytes len some within ∙ sym (trim-inked (take (len - 1) bytes) (get_or bytes (len - 1) 0) e)
    ∙ ap trim_end (sym (split-last bytes len some within)) ∙ h.eq

pub trims-none : (bytes : List ℕ) (len : ℕ) → len ≡ 0 → Trims bytes len → take len bytes ≡ trim_end bytes
trims-none bytes len e h =
    let none : take len bytes ≡ [] = ap (λ (k : ℕ). take k bytes) e in
    none ∙ sym (ap trim_end none) ∙ h.eq
