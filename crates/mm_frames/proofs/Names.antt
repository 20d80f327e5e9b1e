-- Names and their numbers: a search for a name, and what a new name leaves.
use Rattle.std.proofs.Common.{◌≡◌, ℕ, zero, suc, ◌<◌, Bool, true, false, List, [], ◌∷◌, ◌++◌, length, map, Option, Some, None, option_map, position}
use Rattle.std.proofs.Common.{refl, sym, ap, ◌∙◌, arith, subst, inl, inr, nat_eq, ltb}
use Rattle.std.specs.List.{list_any}
use Rattle.std.specs.Str.{bytes_eq}
use Rattle.std.proofs.lemmas.Bool.{cases_Bool, or_parts}
use Rattle.std.proofs.lemmas.Bool.Decides.{nat_tests}
use Rattle.std.proofs.lemmas.Slice.Eq.{bytes_eq-Decides}
use Rattle.mm_base.proofs.Positions.{position-cons}
use Rattle.mm_frames.proofs.Numbers.{name_of, Injective, Within}
use Rattle.mm_model.proofs.Scopes.{cond_then, cond_else}

clash : (n : ℕ) → Some n ≡ None → ⊥
clash n e = cc

pub none-absent : {X : Type 0} (p : X → Bool) (xs : List X) → position p xs ≡ None → list_any p xs ≡ false
none-absent p [] e = refl
none-absent p (x ∷ xs) e =
    elim (cases_Bool (p x)) [
      | inl h ↦ absurd (clash 0 (sym (cond_then (p x) (Some 0) (option_map (λ (n : ℕ). suc n) (position p xs)) h) ∙ sym (position-cons p x xs) ∙ e))
      | inr h ↦ let rest : option_map (λ (n : ℕ). suc n) (position p xs) ≡ None =
          sym (cond_else (p x) (Some 0) (option_map (λ (n : ℕ). suc n) (position p xs)) h) ∙ sym (position-cons p x xs) ∙ e in
          rw h (none-absent p xs (no_map (position p xs) rest))
    ]
  where
    no_map : (o : Option ℕ) → option_map (λ (n : ℕ). suc n) o ≡ None → o ≡ None
    no_map None e = refl
    no_map (Some n) e = absurd cc

-- where a name has a number, that number's name is it
pub record Found (symbols : List (List ℕ)) (n : List ℕ) (i : ℕ) : Type 0 where
  pub within : i < length symbols
  pub name : name_of symbols i ≡ n

pub found-is : (symbols : List (List ℕ)) (n : List ℕ) (i : ℕ) → position (bytes_eq n) symbols ≡ Some i → Found symbols n i
found-is [] n i e = absurd cc
found-is (s ∷ symbols) n i e =
    elim (cases_Bool (bytes_eq n s)) [
      | inl h ↦
          let zero_is : Some 0 ≡ Some i = sym (cond_then (bytes_eq n s) (Some 0) (option_map (λ (n : ℕ). suc n) (position (bytes_eq n) symbols)) h) ∙ sym (position-cons (bytes_eq n) s symbols) ∙ e in
          let is : 0 ≡ i = cc in
          let here : s ≡ n = sym ((bytes_eq-Decides n s).0 h) in
          subst (λ (k : ℕ). Found (s ∷ symbols) n k) is (record { within = omega arith; name = here })
      | inr h ↦
          let rest : option_map (λ (n : ℕ). suc n) (position (bytes_eq n) symbols) ≡ Some i =
          sym (cond_else (bytes_eq n s) (Some 0) (option_map (λ (n : ℕ). suc n) (position (bytes_eq n) symbols)) h)
          ∙ sym (position-cons (bytes_eq n) s symbols) ∙ e in
          deeper s symbols n i (position (bytes_eq n) symbols) rest (λ k q. found-is symbols n k q)
    ]
  where
    deeper : (s : List ℕ) (symbols : List (List ℕ)) (n : List ℕ) (i : ℕ) (o : Option ℕ) → option_map (λ (n : ℕ). suc n) o ≡ Some i
        → ((k : ℕ) → o ≡ Some k → Found symbols n k) → Found (s ∷ symbols) n i
    deeper s symbols n i None e f = absurd cc
    deeper s symbols n i (Some k) e f = let is : suc k ≡ i = cc in let g = f k refl in subst (λ (j : ℕ). Found (s ∷ symbols) n j) is (record { within = omega (arith, g.within); name = g.name })

-- ---- a new name at the end

pub name_of-more : (symbols : List (List ℕ)) (n : List ℕ) (i : ℕ) → i < length symbols → name_of (symbols ++ n ∷ []) i ≡ name_of symbols i
name_of-more [] n i h = let bad : ⊥ = omega arith in absurd bad
name_of-more (s ∷ symbols) n zero h = refl
name_of-more (s ∷ symbols) n (suc i) h = name_of-more symbols n i (omega arith)

pub name_of-last : (symbols : List (List ℕ)) (n : List ℕ) → name_of (symbols ++ n ∷ []) (length symbols) ≡ n
name_of-last [] n = refl
name_of-last (s ∷ symbols) n = name_of-last symbols n

pub length-more : {X : Type 0} (xs : List X) (x : X) → length (xs ++ x ∷ []) ≡ suc (length xs)
length-more [] x = refl
length-more (y ∷ xs) x = ap (λ (n : ℕ). suc n) (length-more xs x)

pub names-more : (symbols : List (List ℕ)) (n : List ℕ) (vs : List ℕ) → Within (length symbols) vs → map (λ v. name_of (symbols ++ n ∷ []) v) vs ≡ map (λ v. name_of symbols v) vs
names-more symbols n [] h = refl
names-more symbols n (v ∷ vs) h = let e = name_of-more symbols n v h.0 in let es = names-more symbols n vs h.1 in cc

pub within-more : (len : ℕ) (vs : List ℕ) → Within len vs → Within (suc len) vs
within-more len [] h = tt
within-more len (v ∷ vs) h = (omega (arith, h.0), within-more len vs h.1)

pub within-add : (len : ℕ) (vs : List ℕ) (i : ℕ) → Within len vs → i < len → Within len (vs ++ i ∷ [])
within-add len [] i h hi = (hi, tt)
within-add len (v ∷ vs) i h hi = (h.0, within-add len vs i h.1 hi)

pub within-absent : (len : ℕ) (vs : List ℕ) → Within len vs → list_any (nat_eq len) vs ≡ false
within-absent len [] h = refl
within-absent len (v ∷ vs) h = let e : nat_eq len v ≡ false = grind (arith, nat_tests, h.0) in rw e (within-absent len vs h.1)

-- no name stands at a number of the list
pub absent-at : (symbols : List (List ℕ)) (n : List ℕ) (i : ℕ) → list_any (bytes_eq n) symbols ≡ false → i < length symbols → bytes_eq n (name_of symbols i) ≡ false
absent-at [] n i a h = let bad : ⊥ = omega arith in absurd bad
absent-at (s ∷ symbols) n zero a h = (or_parts (bytes_eq n s) (list_any (bytes_eq n) symbols) a).0
absent-at (s ∷ symbols) n (suc i) a h = absent-at symbols n i (or_parts (bytes_eq n s) (list_any (bytes_eq n) symbols) a).1 (omega arith)

pub injective-more : (symbols : List (List ℕ)) (n : List ℕ) → Injective symbols → list_any (bytes_eq n) symbols ≡ false → Injective (symbols ++ n ∷ [])
injective-more symbols n one absent i j hi hj e =
    let long = length-more symbols n in
    elim (cases_Bool (ltb i (length symbols))) [
      | inl a ↦ elim (cases_Bool (ltb j (length symbols))) [
        | inl b ↦ let ha : i < length symbols = grind (arith, nat_tests) in let hb : j < length symbols = grind (arith, nat_tests) in
            one i j ha hb (sym (name_of-more symbols n i ha) ∙ e ∙ name_of-more symbols n j hb)
        | inr b ↦ let ha : i < length symbols = grind (arith, nat_tests) in let is : j ≡ length symbols = grind (arith, nat_tests, long) in
            let same : n ≡ name_of symbols i = sym (name_of-last symbols n) ∙ ap (λ (k : ℕ). name_of (symbols ++ n ∷ []) k) (sym is) ∙ sym e ∙ name_of-more symbols n i ha in
            let yes : bytes_eq n (name_of symbols i) ≡ true = (bytes_eq-Decides n (name_of symbols i)).1 same in
            let no = absent-at symbols n i absent ha in absurd cc
      ]
      | inr a ↦ let is : i ≡ length symbols = grind (arith, nat_tests, long) in elim (cases_Bool (ltb j (length symbols))) [
        | inl b ↦ let hb : j < length symbols = grind (arith, nat_tests) in
            let same : n ≡ name_of symbols j = sym (name_of-last symbols n) ∙ ap (λ (k : ℕ). name_of (symbols ++ n ∷ []) k) (sym is) ∙ e ∙ name_of-more symbols n j hb in
            let yes : bytes_eq n (name_of symbols j) ≡ true = (bytes_eq-Decides n (name_of symbols j)).1 same in
            let no = absent-at symbols n j absent hb in absurd cc
        | inr b ↦ let js : j ≡ length symbols = grind (arith, nat_tests, long) in is ∙ sym js
      ]
    ]
