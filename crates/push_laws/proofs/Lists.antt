-- Lists side by side, and elements by their places.
use Rattle.std.specs.Prelude.{◌≡◌, ◌<◌, ◌⊎◌, ℕ, zero, suc, Bool, true, List, [], ◌∷◌, ◌++◌, length, map, filter, filter_map, slice_get, slice_index_or, Contains, Option, Some, None, refl}
use Rattle.std.specs.List.{AllZip, AllByRecursion, list_any, cons_option}
use Rattle.std.proofs.Common.{ap, subst, ◌∙◌, arith, inl, inr}
use Rattle.std.proofs.lemmas.Bool.{cases_Bool, or_cases, or_left, or_right}

module _ {X : Type 0} where
  pub first : (x y : X) (ys : List X) → y ≡ x → Contains (y ∷ ys) x
  first x y ys e = (0, omega arith, e)

  pub later : (x y : X) (ys : List X) → Contains ys x → Contains (y ∷ ys) x
  later x y ys (k, l, e) = (suc k, omega (arith, l), e)

  pub nothing : (x : X) → Contains [] x → ⊥
  nothing x h = omega (arith, h.1)

  pub parted : (x y : X) (ys : List X) → Contains (y ∷ ys) x → (y ≡ x) ⊎ Contains ys x
  parted x y ys (zero, l, e) = inl e
  parted x y ys (suc k, l, e) = inr (k, omega (arith, l), e)

  pub append_none : (xs ys : List X) → xs ++ ys ≡ [] → (xs ≡ []) × (ys ≡ [])
  append_none [] ys e = (refl, e)
  append_none (x ∷ xs) ys e = absurd cc

  pub all_in : (P : X → Type 0) (xs : List X) → ((x : X) → Contains xs x → P x) → AllByRecursion P xs
  all_in P [] f = tt
  all_in P (x ∷ xs) f = (f x (first x x xs refl), all_in P xs (λ y h. f y (later y x xs h)))

  pub all_of : (P : X → Type 0) (xs : List X) (x : X) → AllByRecursion P xs → Contains xs x → P x
  all_of P [] x a h = absurd (nothing x h)
  all_of P (y ∷ ys) x a h = elim (parted x y ys h) [ inl e ↦ subst P e a.0 | inr l ↦ all_of P ys x a.1 l ]

  pub get_contains : (xs : List X) (k : ℕ) (x : X) → slice_get xs k ≡ Some x → Contains xs x
  get_contains [] k x e = absurd cc
  get_contains (y ∷ ys) zero x e = first x y ys (let same : y ≡ x = cc in same)
  get_contains (y ∷ ys) (suc k) x e = later x y ys (get_contains ys k x e)

  pub get_within : (xs : List X) (k : ℕ) → k < length xs → (x : X) × (slice_get xs k ≡ Some x)
  get_within [] k l = let bad : ⊥ = omega (arith, l) in absurd bad
  get_within (x ∷ xs) zero l = (x, refl)
  get_within (x ∷ xs) (suc k) l = get_within xs k (omega (arith, l))

  pub index_get : (xs : List X) (k : ℕ) (d x : X) → slice_get xs k ≡ Some x → slice_index_or xs k d ≡ x
  index_get [] k d x e = absurd cc
  index_get (y ∷ ys) zero d x e = cc
  index_get (y ∷ ys) (suc k) d x e = index_get ys k d x e

module _ {X Y : Type 0} where
  pub map_get : (f : X → Y) (xs : List X) (k : ℕ) (x : X) → slice_get xs k ≡ Some x → slice_get (map f xs) k ≡ Some (f x)
  map_get f [] k x e = absurd cc
  map_get f (y ∷ ys) zero x e = let same : y ≡ x = cc in ap (λ z. Some (f z)) same
  map_get f (y ∷ ys) (suc k) x e = map_get f ys k x e

  pub get_mapped : (f : X → Y) (xs : List X) (k : ℕ) (y : Y) → slice_get (map f xs) k ≡ Some y → (x : X) × (slice_get xs k ≡ Some x) × (f x ≡ y)
  get_mapped f [] k y e = absurd cc
  get_mapped f (x ∷ xs) zero y e = (x, refl, let same : f x ≡ y = cc in same)
  get_mapped f (x ∷ xs) (suc k) y e = get_mapped f xs k y e

  pub map_contains : (f : X → Y) (xs : List X) (x : X) → Contains xs x → Contains (map f xs) (f x)
  map_contains f [] x h = absurd (nothing x h)
  map_contains f (y ∷ ys) x h = elim (parted x y ys h) [
    | inl e ↦ first (f x) (f y) (map f ys) (ap f e)
    | inr l ↦ later (f x) (f y) (map f ys) (map_contains f ys x l)
  ]

  pub zip_get : (R : X → Y → Type 0) (xs : List X) (ys : List Y) (k : ℕ) (x : X) → AllZip R xs ys → slice_get xs k ≡ Some x → (y : Y) × (slice_get ys k ≡ Some y) × R x y
  zip_get R [] ys k x a e = absurd cc
  zip_get R (z ∷ xs) [] k x a e = absurd a
  zip_get R (z ∷ xs) (y ∷ ys) zero x a e = let same : z ≡ x = cc in (y, refl, subst (λ w. R w y) same a.0)
  zip_get R (z ∷ xs) (y ∷ ys) (suc k) x a e = zip_get R xs ys k x a.1 e

  pub zip_weaker : (R S : X → Y → Type 0) → ((x : X) (y : Y) → R x y → S x y) → (xs : List X) (ys : List Y) → AllZip R xs ys → AllZip S xs ys
  zip_weaker R S f [] [] a = tt
  zip_weaker R S f [] (y ∷ ys) a = absurd a
  zip_weaker R S f (x ∷ xs) [] a = absurd a
  zip_weaker R S f (x ∷ xs) (y ∷ ys) a = (f x y a.0, zip_weaker R S f xs ys a.1)

  pub zip_length : (R : X → Y → Type 0) (xs : List X) (ys : List Y) → AllZip R xs ys → length xs ≡ length ys
  zip_length R [] [] a = refl
  zip_length R [] (y ∷ ys) a = absurd a
  zip_length R (x ∷ xs) [] a = absurd a
  zip_length R (x ∷ xs) (y ∷ ys) a = ap suc (zip_length R xs ys a.1)

  -- lists of one length are side by side
  pub side_by_side : (xs : List X) (ys : List Y) → length xs ≡ length ys → AllZip (λ x y. Unit {0}) xs ys
  side_by_side [] [] e = tt
  side_by_side [] (y ∷ ys) e = let bad : ⊥ = omega (arith, e) in absurd bad
  side_by_side (x ∷ xs) [] e = let bad : ⊥ = omega (arith, e) in absurd bad
  side_by_side (x ∷ xs) (y ∷ ys) e = (tt, side_by_side xs ys (omega (arith, e)))

  pub zip_left : (R S : X → Y → Type 0) (P : X → Type 0) → ((x : X) (y : Y) → P x → R x y → S x y) → (xs : List X) (ys : List Y) → AllByRecursion P xs → AllZip R xs ys → AllZip S xs ys
  zip_left R S P f [] [] p a = tt
  zip_left R S P f [] (y ∷ ys) p a = absurd a
  zip_left R S P f (x ∷ xs) [] p a = absurd a
  zip_left R S P f (x ∷ xs) (y ∷ ys) p a = (f x y p.0 a.0, zip_left R S P f xs ys p.1 a.1)

module _ {X : Type 0} where
  pub contains_get : (xs : List X) (x : X) → Contains xs x → (k : ℕ) × (slice_get xs k ≡ Some x)
  contains_get [] x h = absurd (nothing x h)
  contains_get (y ∷ xs) x h = elim (parted x y xs h) [
    | inl e ↦ (0, ap (λ z. Some z) e)
    | inr l ↦ let k = contains_get xs x l in (suc k.0, k.1)
  ]

  pub filter_contains : (p : X → Bool) (xs : List X) (x : X) → Contains xs x → p x ≡ true → Contains (filter p xs) x
  filter_contains p [] x h i = absurd (nothing x h)
  filter_contains p (y ∷ xs) x h i = elim (parted x y xs h) [
    | inl e ↦ let d : p y ≡ true = ap p e ∙ i in rw d (first x y (filter p xs) e)
    | inr l ↦ elim (cases_Bool (p y)) [
      | inl d ↦ rw d (later x y (filter p xs) (filter_contains p xs x l i))
      | inr d ↦ rw d (filter_contains p xs x l i)
    ]
  ]

  pub any_of_contains : (p : X → Bool) (xs : List X) (x : X) → Contains xs x → p x ≡ true → list_any p xs ≡ true
  any_of_contains p [] x h i = absurd (nothing x h)
  any_of_contains p (y ∷ xs) x h i = elim (parted x y xs h) [
    | inl e ↦ or_left (p y) (list_any p xs) (ap p e ∙ i)
    | inr l ↦ or_right (p y) (list_any p xs) (any_of_contains p xs x l i)
  ]

  pub any_contains : (p : X → Bool) (xs : List X) → list_any p xs ≡ true → (x : X) × Contains xs x × (p x ≡ true)
  any_contains p [] h = absurd cc
  any_contains p (y ∷ xs) h = elim (or_cases (p y) (list_any p xs) h) [
    | inl d ↦ (y, first y y xs refl, d)
    | inr d ↦ let x = any_contains p xs d in (x.0, later x.0 y xs x.1, x.2)
  ]

module _ {X Y : Type 0} where
  pub filter_map_contains : (h : X → Option Y) (xs : List X) (x : X) (y : Y) → Contains xs x → h x ≡ Some y → Contains (filter_map h xs) y
  filter_map_contains h [] x y c e = absurd (nothing x c)
  filter_map_contains h (z ∷ xs) x y c e = elim (parted x z xs c) [
    | inl d ↦ let is : h z ≡ Some y = ap h d ∙ e in rw is (first y y (filter_map h xs) refl)
    | inr l ↦ more (h z) (filter_map_contains h xs x y l e)
  ]
    where
      more : (o : Option Y) → Contains (filter_map h xs) y → Contains (cons_option o (filter_map h xs)) y
      more None i = i
      more (Some w) i = later y w (filter_map h xs) i

  pub zip_mapped : {Z : Type 0} (R : X → Y → Type 0) (f : Z → Y) (xs : List X) (zs : List Z) → AllZip (λ x z. R x (f z)) xs zs → AllZip R xs (map f zs)
  zip_mapped R f [] [] a = tt
  zip_mapped R f [] (z ∷ zs) a = absurd a
  zip_mapped R f (x ∷ xs) [] a = absurd a
  zip_mapped R f (x ∷ xs) (z ∷ zs) a = (a.0, zip_mapped R f xs zs a.1)
