-- Facts of each element of a list, and of each two.
use Rattle.std.proofs.Common.{◌≡◌, ◌<◌, ◌-◌, ℕ, zero, suc, Bool, true, false, List, [], ◌∷◌, ◌++◌, length, reverse, Option, Some, None, refl, sym, ap, ◌∙◌, arith, subst, inl, inr}
use Rattle.std.specs.List.{AllByRecursion, slice_get, filter, filter_map, list_any, position_or_len}
use Rattle.std.specs.Str.{bytes_eq}
use Rattle.std.proofs.lemmas.Bool.{cases_Bool, or_cases, or_left, or_right, both_ways}
use Rattle.std.proofs.lemmas.Slice.Eq.{bytes_eq-Decides}
use Rattle.std.proofs.lemmas.List.{length-reverse, get_or-reverse}
use Rattle.std.proofs.lemmas.Option.{slice_get_within, get_or_from_slice_get, slice_get-get_or}
use Rattle.mm_model.specs.Names.{Name}
use Rattle.mm_model.specs.Statements.{contains}
use Rattle.mm_model.specs.BookFacts.{NamesDiffer}
use Rattle.model_laws.proofs.Checked.{reverse-cons}

module _ {X : Type 0} (P : X → Type 0) where
  pub all_push : (xs : List X) (x : X) → AllByRecursion P xs → P x → AllByRecursion P (xs ++ x ∷ [])
  all_push [] x h p = (p, tt)
  all_push (y ∷ xs) x h p = (h.0, all_push xs x h.1 p)

  pub all-reverse : (xs : List X) → AllByRecursion P xs → AllByRecursion P (reverse xs)
  all-reverse [] h = tt
  all-reverse (x ∷ xs) h = subst (AllByRecursion P) (sym (reverse-cons x xs)) (all_push (reverse xs) x (all-reverse xs h.1) h.0)

  pub all-filter : (p : X → Bool) (xs : List X) → AllByRecursion P xs → AllByRecursion P (filter p xs)
  all-filter p [] h = tt
  all-filter p (x ∷ xs) h = elim (cases_Bool (p x)) [
    | inl e ↦ rw e (h.0, all-filter p xs h.1)
    | inr e ↦ rw e (all-filter p xs h.1)
  ]

  pub all_right : (xs ys : List X) → AllByRecursion P (xs ++ ys) → AllByRecursion P ys
  all_right [] ys h = h
  all_right (x ∷ xs) ys h = all_right xs ys h.1

  pub all_at : (xs : List X) (k : ℕ) (x : X) → AllByRecursion P xs → slice_get xs k ≡ Some x → P x
  all_at [] k x h e = absurd cc
  all_at (y ∷ xs) zero x h e = let same : y ≡ x = cc in subst P same h.0
  all_at (y ∷ xs) (suc k) x h e = all_at xs k x h.1 e

pub all_and : {X : Type 0} (P Q R : X → Type 0) → ((x : X) → P x → Q x → R x) → (xs : List X) → AllByRecursion P xs → AllByRecursion Q xs → AllByRecursion R xs
all_and P Q R f [] h k = tt
all_and P Q R f (x ∷ xs) h k = (f x h.0 k.0, all_and P Q R f xs h.1 k.1)

pub all_with : {X : Type 0} (P Q : X → Type 0) → ((x : X) → P x → Q x) → (xs : List X) → AllByRecursion P xs → AllByRecursion Q xs
all_with P Q f [] h = tt
all_with P Q f (x ∷ xs) h = (f x h.0, all_with P Q f xs h.1)

pub all_pass : {X : Type 0} (p : X → Bool) (xs : List X) → AllByRecursion (λ x. p x ≡ true) (filter p xs)
all_pass p [] = tt
all_pass p (x ∷ xs) = elim (cases_Bool (p x)) [
  | inl e ↦ rw e (e, all_pass p xs)
  | inr e ↦ rw e (all_pass p xs)
]

-- a fact of each two elements, the earlier first
abbrev pub Pairwise : {X : Type 0} → (X → X → Type 0) → List X → Type 0
Pairwise R [] = Unit {0}
Pairwise R (x ∷ xs) = AllByRecursion (R x) xs × Pairwise R xs

module _ {X : Type 0} (R : X → X → Type 0) where
  pub pairwise-filter : (p : X → Bool) (xs : List X) → Pairwise R xs → Pairwise R (filter p xs)
  pairwise-filter p [] h = tt
  pairwise-filter p (x ∷ xs) h = elim (cases_Bool (p x)) [
    | inl e ↦ rw e (all-filter (R x) p xs h.0, pairwise-filter p xs h.1)
    | inr e ↦ rw e (pairwise-filter p xs h.1)
  ]

  pub pairwise_right : (xs ys : List X) → Pairwise R (xs ++ ys) → Pairwise R ys
  pairwise_right [] ys h = h
  pairwise_right (x ∷ xs) ys h = pairwise_right xs ys h.1

  pub pairwise_push : (xs : List X) (x : X) → Pairwise R xs → AllByRecursion (λ y. R y x) xs → Pairwise R (xs ++ x ∷ [])
  pairwise_push [] x h k = (tt, tt)
  pairwise_push (y ∷ xs) x h k = (all_push (R y) xs x h.0 k.0, pairwise_push xs x h.1 k.1)

  pub pairwise-reverse : ((x y : X) → R x y → R y x) → (xs : List X) → Pairwise R xs → Pairwise R (reverse xs)
  pairwise-reverse turn [] h = tt
  pairwise-reverse turn (x ∷ xs) h =
      subst (Pairwise R) (sym (reverse-cons x xs))
      (pairwise_push (reverse xs) x (pairwise-reverse turn xs h.1) (all-reverse (λ y. R y x) xs (all_with (R x) (λ y. R y x) (λ y r. turn x y r) xs h.0)))

-- elements that are related are not at one place
pub places_differ : {X : Type 0} (R : X → X → Type 0) → (Same : X → X → Type 0) → ((x y : X) → Same x y → Same y x) → ((x y : X) → R x y → Same x y → ⊥)
    → (xs : List X) → Pairwise R xs → (i j : ℕ) (x y : X) → slice_get xs i ≡ Some x → slice_get xs j ≡ Some y → Same x y → i ≡ j
places_differ R Same turn apart [] h i j x y e f s = absurd cc
places_differ R Same turn apart (z ∷ xs) h zero zero x y e f s = refl
places_differ R Same turn apart (z ∷ xs) h zero (suc j) x y e f s =
    let same : z ≡ x = cc in absurd (apart z y (all_at (R z) xs j y h.0 f) (subst (λ a. Same a y) (sym same) s))
places_differ R Same turn apart (z ∷ xs) h (suc i) zero x y e f s =
    let same : z ≡ y = cc in absurd (apart z x (all_at (R z) xs i x h.0 e) (turn x z (subst (λ a. Same x a) (sym same) s)))
places_differ R Same turn apart (z ∷ xs) h (suc i) (suc j) x y e f s = ap (λ (n : ℕ). suc n) (places_differ R Same turn apart xs h.1 i j x y e f s)

-- ---- names

pub same_names : (a b : Name) → bytes_eq a b ≡ true → a ≡ b
same_names a b e = (bytes_eq-Decides a b).0 e

pub name_self : (a : Name) → bytes_eq a a ≡ true
name_self a = (bytes_eq-Decides a a).1 refl

abbrev pub Unlike : Name → Name → Type 0
Unlike a b = a ≡ b → ⊥

pub all_unlike : (xs : List Name) (n : Name) → contains xs n ≡ false → AllByRecursion (Unlike n) xs
all_unlike [] n e = tt
all_unlike (x ∷ xs) n e = elim (cases_Bool (bytes_eq n x)) [
  | inl d ↦ let bad : true ≡ false = rw d at e in absurd cc
  | inr d ↦ ((λ same. both_ways (bytes_eq n x) d (subst (λ (y : Name). bytes_eq n y ≡ true) same (name_self n))), all_unlike xs n (rw d at e))
]

pub names_differ : (xs : List Name) → Pairwise Unlike xs → NamesDiffer xs
names_differ xs h i j n e f = places_differ Unlike (λ a b. a ≡ b) (λ a b s. sym s) (λ a b r s. r s) xs h i j n n e f refl

pub contains-filter : (p : Name → Bool) (xs : List Name) (n : Name) → contains (filter p xs) n ≡ true → contains xs n ≡ true
contains-filter p [] n e = e
contains-filter p (x ∷ xs) n e = elim (cases_Bool (p x)) [
  | inl d ↦ elim (or_cases (bytes_eq n x) (contains (filter p xs) n) (rw d at e)) [
    | inl s ↦ or_left (bytes_eq n x) (contains xs n) s
    | inr s ↦ or_right (bytes_eq n x) (contains xs n) (contains-filter p xs n s)
  ]
  | inr d ↦ or_right (bytes_eq n x) (contains xs n) (contains-filter p xs n (rw d at e))
]

-- and passes the test
pub contains_passes : (p : Name → Bool) (xs : List Name) (n : Name) → contains (filter p xs) n ≡ true → p n ≡ true
contains_passes p [] n e = absurd cc
contains_passes p (x ∷ xs) n e = elim (cases_Bool (p x)) [
  | inl d ↦ elim (or_cases (bytes_eq n x) (contains (filter p xs) n) (rw d at e)) [
    | inl s ↦ ap p (same_names n x s) ∙ d
    | inr s ↦ contains_passes p xs n s
  ]
  | inr d ↦ contains_passes p xs n (rw d at e)
]

-- ---- the first that passes

pub first_within : {X : Type 0} (p : X → Bool) (xs : List X) → list_any p xs ≡ true → position_or_len p xs < length xs
first_within p [] e = absurd cc
first_within p (x ∷ xs) e = elim (cases_Bool (p x)) [
  | inl d ↦ rw d (omega arith)
  | inr d ↦ let rest = first_within p xs (rw d at e) in rw d (omega (arith, rest))
]

-- a list in the other order
pub slice_get_reversed : {X : Type 0} (xs : List X) (k : ℕ) (x : X) → slice_get (reverse xs) k ≡ Some x → slice_get xs (length xs - 1 - k) ≡ Some x
slice_get_reversed xs k x e =
    let within : k < length xs = omega (arith, slice_get_within (reverse xs) k x e, length-reverse xs) in
    let here = sym (get_or-reverse xs k x within) ∙ get_or_from_slice_get (reverse xs) k x x e in
    slice_get-get_or xs (length xs - 1 - k) x (omega arith) ∙ ap (λ y. Some y) here

-- ---- what a function gives of some elements

given : {X Y : Type 0} (P : X → Type 0) (Q : Y → Type 0) (h : X → Option Y) → ((x : X) (y : Y) → P x → h x ≡ Some y → Q y)
    → (x : X) (xs : List X) (o : Option Y) → h x ≡ o → P x → AllByRecursion Q (filter_map h xs) → AllByRecursion Q (filter_map h (x ∷ xs))
given P Q h f x xs None e p rest = rw e rest
given P Q h f x xs (Some y) e p rest = rw e (f x y p e, rest)

pub all-filter_map : {X Y : Type 0} (P : X → Type 0) (Q : Y → Type 0) (h : X → Option Y) → ((x : X) (y : Y) → P x → h x ≡ Some y → Q y)
    → (xs : List X) → AllByRecursion P xs → AllByRecursion Q (filter_map h xs)
all-filter_map P Q h f [] all = tt
all-filter_map P Q h f (x ∷ xs) all = given P Q h f x xs (h x) refl all.0 (all-filter_map P Q h f xs all.1)

given_two : {X Y : Type 0} (R : X → X → Type 0) (S : Y → Y → Type 0) (h : X → Option Y) → ((a b : X) (c d : Y) → R a b → h a ≡ Some c → h b ≡ Some d → S c d)
    → (x : X) (xs : List X) (o : Option Y) → h x ≡ o → AllByRecursion (R x) xs → Pairwise S (filter_map h xs) → Pairwise S (filter_map h (x ∷ xs))
given_two R S h f x xs None e r rest = rw e rest
given_two R S h f x xs (Some y) e r rest = rw e (all-filter_map (R x) (S y) h (λ b d q is. f x b y d q e is) xs r, rest)

pub pairwise-filter_map : {X Y : Type 0} (R : X → X → Type 0) (S : Y → Y → Type 0) (h : X → Option Y)
    → ((a b : X) (c d : Y) → R a b → h a ≡ Some c → h b ≡ Some d → S c d) → (xs : List X) → Pairwise R xs → Pairwise S (filter_map h xs)
pairwise-filter_map R S h f [] all = tt
pairwise-filter_map R S h f (x ∷ xs) all = given_two R S h f x xs (h x) refl all.0 (pairwise-filter_map R S h f xs all.1)
