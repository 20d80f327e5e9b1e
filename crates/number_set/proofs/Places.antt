-- Where a number stands in a list, and where it is noted.
use Rattle.std.proofs.Common.{◌≡◌, ℕ, zero, suc, ◌<◌, true, false, eqb, List, [], ◌∷◌, ◌++◌, length, Some, None, refl, sym, ap, ◌∙◌, arith, subst}
use Rattle.std.proofs.Common.{inl, inr, ◌⊎◌, nat_eq, slice_get, slice_set, position}
use Rattle.std.specs.List.{list_any}
use Rattle.std.proofs.lemmas.Bool.{cases_Bool}
use Rattle.std.proofs.lemmas.Bool.Decides.{nat_tests}
use Rattle.mm_base.proofs.Positions.{position-cons}
use Rattle.number_set.specs.Noted.{Noted}

some_is : (a b : ℕ) → Some a ≡ Some b → a ≡ b
some_is a b e = cc

eq-self : (n : ℕ) → eqb n n ≡ true
eq-self n = grind (arith, nat_tests)

pub found : (xs : List ℕ) (i n : ℕ) → slice_get xs i ≡ Some n → list_any (nat_eq n) xs ≡ true
found [] i n e = absurd cc
found (x ∷ xs) zero n e = let same : x ≡ n = some_is x n e in subst (λ (m : ℕ). list_any (nat_eq n) (m ∷ xs) ≡ true) (sym same) (rw (eq-self n) refl)
found (x ∷ xs) (suc i) n e = let later : list_any (nat_eq n) xs ≡ true = found xs i n e in elim (cases_Bool (eqb n x)) [ inl h ↦ rw h refl | inr h ↦ rw (h, later) refl ]

pub nowhere : (xs : List ℕ) (n : ℕ) → ((i : ℕ) → slice_get xs i ≡ Some n → ⊥) → list_any (nat_eq n) xs ≡ false
nowhere [] n none = refl
nowhere (x ∷ xs) n none =
    let later : list_any (nat_eq n) xs ≡ false = nowhere xs n (λ i e. none (suc i) e) in
    elim (cases_Bool (eqb n x)) [
      | inl h ↦ let same : x ≡ n = grind (arith, nat_tests) in absurd (none 0 (ap (λ (m : ℕ). Some m) same))
      | inr h ↦ rw (h, later) refl
    ]

-- a number that is not noted, or noted past the end, or where another stands, is nowhere
pub not_noted : (items places : List ℕ) (n : ℕ) → Noted items places → slice_get places n ≡ None → false ≡ list_any (nat_eq n) items
not_noted items places n noted e = sym (nowhere items n (λ i h. let both : Some i ≡ None = sym (noted i n h) ∙ e in absurd cc))

pub noted_past : (items places : List ℕ) (n p : ℕ) → Noted items places → slice_get places n ≡ Some p → slice_get items p ≡ None → false ≡ list_any (nat_eq n) items
noted_past items places n p noted e past =
    sym (nowhere items n
    (λ i h. let same : i ≡ p = some_is i p (sym (noted i n h) ∙ e) in
    let both : None ≡ Some n = sym past ∙ subst (λ (j : ℕ). slice_get items j ≡ Some n) same h in absurd cc))

pub noted_there : (items places : List ℕ) (n p m : ℕ) → Noted items places → slice_get places n ≡ Some p → slice_get items p ≡ Some m → nat_eq m n ≡ list_any (nat_eq n) items
noted_there items places n p m noted e there =
    elim (cases_Bool (eqb m n)) [
      | inl h ↦ let same : m ≡ n = grind (arith, nat_tests) in h ∙ sym (found items p n (there ∙ ap (λ (k : ℕ). Some k) same))
      | inr h ↦ h
          ∙ sym
          (nowhere items n
          (λ i g. let same : i ≡ p = some_is i p (sym (noted i n g) ∙ e) in
          let here : Some m ≡ Some n = sym there ∙ subst (λ (j : ℕ). slice_get items j ≡ Some n) same g in
          let is : m ≡ n = some_is m n here in let t : eqb m n ≡ true = grind (arith, nat_tests) in absurd cc))
    ]

-- ---- a number is put in

set_there : (ps : List ℕ) (k v : ℕ) → k < length ps → slice_get (slice_set ps k v) k ≡ Some v
set_there [] k v h = let bad : ⊥ = omega arith in absurd bad
set_there (p ∷ ps) zero v h = refl
set_there (p ∷ ps) (suc k) v h = set_there ps k v (omega arith)

set_else : (ps : List ℕ) (k v n : ℕ) → (k ≡ n → ⊥) → slice_get (slice_set ps k v) n ≡ slice_get ps n
set_else [] k v n h = refl
set_else (p ∷ ps) zero v zero h = absurd (h refl)
set_else (p ∷ ps) (suc k) v zero h = refl
set_else (p ∷ ps) zero v (suc n) h = refl
set_else (p ∷ ps) (suc k) v (suc n) h = set_else ps k v n (λ e. h (ap (λ (m : ℕ). suc m) e))

-- the place of a number that is in no list may change
pub noted_elsewhere : (items places : List ℕ) (k v : ℕ) → Noted items places → list_any (nat_eq k) items ≡ false → Noted items (slice_set places k v)
noted_elsewhere items places k v noted absent i n e =
    set_else places k v n (λ same. let there : list_any (nat_eq k) items ≡ true = found items i k (e ∙ ap (λ (m : ℕ). Some m) (sym same)) in absurd cc) ∙ noted i n e

-- an item of a longer list is one of the list or the new one
last_or : (items : List ℕ) (k i n : ℕ) → slice_get (items ++ k ∷ []) i ≡ Some n → (slice_get items i ≡ Some n) ⊎ ((i ≡ length items) × (n ≡ k))
last_or [] k zero n e = inr (refl, sym (some_is k n e))
last_or [] k (suc i) n e = absurd cc
last_or (x ∷ items) k zero n e = inl e
last_or (x ∷ items) k (suc i) n e = elim (last_or items k i n e) [ inl h ↦ inl h | inr h ↦ inr (ap (λ (m : ℕ). suc m) h.0, h.1) ]

pub noted_new : (items places : List ℕ) (k : ℕ) → Noted items places → list_any (nat_eq k) items ≡ false → k < length places → Noted (items ++ k ∷ []) (slice_set places k (length items))
noted_new items places k noted absent inside i n e =
    elim (last_or items k i n e) [
      | inl h ↦ noted_elsewhere items places k (length items) noted absent i n h
      | inr h ↦ ap (λ (m : ℕ). slice_get (slice_set places k (length items)) m) h.1 ∙ set_there places k (length items) inside ∙ ap (λ (m : ℕ). Some m) (sym h.0)
    ]

-- ---- the place of a number

pub nowhere_placed : (n : ℕ) (xs : List ℕ) → list_any (nat_eq n) xs ≡ false → None ≡ position (nat_eq n) xs
nowhere_placed n [] e = refl
nowhere_placed n (x ∷ xs) e =
    elim (cases_Bool (eqb n x)) [
      | inl h ↦ let bad : true ≡ false = rw h at e in absurd cc
      | inr h ↦ let rest : list_any (nat_eq n) xs ≡ false = rw h at e in let later = nowhere_placed n xs rest in rw position-cons (rw (h, sym later) refl)
    ]

-- the only place where a number stands
pub placed : (n : ℕ) (xs : List ℕ) (p : ℕ) → slice_get xs p ≡ Some n → ((i : ℕ) → slice_get xs i ≡ Some n → i ≡ p) → Some p ≡ position (nat_eq n) xs
placed n [] p e one = absurd cc
placed n (x ∷ xs) zero e one = let same : x ≡ n = some_is x n e in let t : eqb n x ≡ true = grind (arith, nat_tests) in rw position-cons (rw t refl)
placed n (x ∷ xs) (suc p) e one =
    let later = placed n xs p e (λ i h. let up = one (suc i) h in omega (arith, up)) in
    elim (cases_Bool (eqb n x)) [
      | inl h ↦ let same : x ≡ n = grind (arith, nat_tests) in let up : 0 ≡ suc p = one 0 (ap (λ (k : ℕ). Some k) same) in let bad : ⊥ = omega (arith, up) in absurd bad
      | inr h ↦ rw position-cons (rw (h, sym later) refl)
    ]

pub noted_place : (items places : List ℕ) (n p m : ℕ) → Noted items places → slice_get places n ≡ Some p → slice_get items p ≡ Some m → m ≡ n → Some p ≡ position (nat_eq n) items
noted_place items places n p m noted e there same =
    placed n items p (there ∙ ap (λ (k : ℕ). Some k) same) (λ i h. some_is i p (sym (noted i n h) ∙ e))

pub noted_other : (items places : List ℕ) (n p m : ℕ) → Noted items places → slice_get places n ≡ Some p → slice_get items p ≡ Some m → (m ≡ n → ⊥) → None ≡ position (nat_eq n) items
noted_other items places n p m noted e there differ =
    nowhere_placed n items (sym (noted_there items places n p m noted e there) ∙ unequal m n differ)
  where
    unequal : (m n : ℕ) → (m ≡ n → ⊥) → nat_eq m n ≡ false
    unequal m n d = elim (cases_Bool (eqb m n)) [ inl h ↦ let same : m ≡ n = grind (arith, nat_tests) in absurd (d same) | inr h ↦ h ]
