-- Whether an element passes a test, in lists made of others.
use Rattle.std.proofs.Common.{◌≡◌, ℕ, zero, suc, Bool, true, false, ◌&&◌, ◌||◌, List, [], ◌∷◌, map, take, reverse, refl, sym, ap, ◌∙◌, inl, inr, flat_map, nat_eq}
use Rattle.std.specs.List.{list_any, filter, ends_with}
use Rattle.std.proofs.lemmas.Bool.{cases_Bool, and_parts, and_from, or_cases, or_left, or_right}
use Rattle.std.proofs.lemmas.List.Folds.{list_any-append}
use Rattle.mm_model.specs.Statements.{Statement, active_on, path}
use Rattle.model_laws.proofs.Checked.{reverse-cons}

pub any-reverse : {X : Type 0} (q : X → Bool) (xs : List X) → list_any q (reverse xs) ≡ true → list_any q xs ≡ true
any-reverse q [] h = h
any-reverse q (x ∷ xs) h =
    let split : (list_any q (reverse xs) || (q x || false)) ≡ true = sym (list_any-append q (reverse xs) (x ∷ [])) ∙ ap (list_any q) (sym (reverse-cons x xs)) ∙ h in
    elim (or_cases (list_any q (reverse xs)) (q x || false) split) [
      | inl d ↦ or_right (q x) (list_any q xs) (any-reverse q xs d)
      | inr d ↦ elim (or_cases (q x) false d) [ inl g ↦ or_left (q x) (list_any q xs) g | inr g ↦ let bad : false ≡ true = g in absurd cc ]
    ]

pub any-take : {X : Type 0} (q : X → Bool) (k : ℕ) (xs : List X) → list_any q (take k xs) ≡ true → list_any q xs ≡ true
any-take q zero xs h = absurd cc
any-take q (suc k) [] h = h
any-take q (suc k) (x ∷ xs) h = elim (or_cases (q x) (list_any q (take k xs)) h) [
  | inl d ↦ or_left (q x) (list_any q xs) d
  | inr d ↦ or_right (q x) (list_any q xs) (any-take q k xs d)
]

pub any-filter : {X : Type 0} (q p : X → Bool) (xs : List X) → list_any q (filter p xs) ≡ true → list_any (λ x. p x && q x) xs ≡ true
any-filter q p [] h = h
any-filter q p (x ∷ xs) h = elim (cases_Bool (p x)) [
  | inl d ↦ elim (or_cases (q x) (list_any q (filter p xs)) (rw d at h)) [
    | inl g ↦ or_left _ _ (and_from (p x) (q x) d g)
    | inr g ↦ or_right (p x && q x) _ (any-filter q p xs g)
  ]
  | inr d ↦ or_right (p x && q x) _ (any-filter q p xs (rw d at h))
]

pub any_kept : {X : Type 0} (q p : X → Bool) (xs : List X) → list_any (λ x. p x && q x) xs ≡ true → list_any q (filter p xs) ≡ true
any_kept q p [] h = h
any_kept q p (x ∷ xs) h = elim (cases_Bool (p x)) [
  | inl d ↦ elim (or_cases (p x && q x) (list_any (λ y. p y && q y) xs) h) [
    | inl g ↦ rw d (or_left (q x) (list_any q (filter p xs)) (and_parts (p x) (q x) g).1)
    | inr g ↦ rw d (or_right (q x) (list_any q (filter p xs)) (any_kept q p xs g))
  ]
  | inr d ↦ elim (or_cases (p x && q x) (list_any (λ y. p y && q y) xs) h) [
    | inl g ↦ let bad : true ≡ false = sym (and_parts (p x) (q x) g).0 ∙ d in absurd cc
    | inr g ↦ rw d (any_kept q p xs g)
  ]
]

pub any-with : {X : Type 0} (q r : X → Bool) → ((x : X) → q x ≡ true → r x ≡ true) → (xs : List X) → list_any q xs ≡ true → list_any r xs ≡ true
any-with q r f [] h = h
any-with q r f (x ∷ xs) h = elim (or_cases (q x) (list_any q xs) h) [
  | inl d ↦ or_left (r x) (list_any r xs) (f x d)
  | inr d ↦ or_right (r x) (list_any r xs) (any-with q r f xs d)
]

pub any-active : (q : Statement → Bool) (p : List ℕ) (e : List Statement) → list_any q (active_on p e) ≡ true → list_any q e ≡ true
any-active q p [] h = h
any-active q p (s ∷ e) h = elim (cases_Bool (ends_with nat_eq p (path e))) [
  | inl d ↦ elim (or_cases (q s) (list_any q (active_on p e)) (rw d at h)) [
    | inl g ↦ or_left (q s) (list_any q e) g
    | inr g ↦ or_right (q s) (list_any q e) (any-active q p e g)
  ]
  | inr d ↦ or_right (q s) (list_any q e) (any-active q p e (rw d at h))
]

pub any-map : {X Y : Type 0} (q : Y → Bool) (f : X → Y) (xs : List X) → list_any q (map f xs) ≡ list_any (λ x. q (f x)) xs
any-map q f [] = refl
any-map q f (x ∷ xs) = ap (λ (b : Bool). q (f x) || b) (any-map q f xs)

-- what stands in one of the lists
pub any-flat : {X Y : Type 0} (q : Y → Bool) (f : X → List Y) (xs : List X) → list_any q (flat_map f xs) ≡ list_any (λ x. list_any q (f x)) xs
any-flat q f [] = refl
any-flat q f (x ∷ xs) = list_any-append q (f x) (flat_map f xs) ∙ ap (λ (b : Bool). list_any q (f x) || b) (any-flat q f xs)
