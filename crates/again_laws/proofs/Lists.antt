-- Lists by place and by element.
use Rattle.std.specs.Prelude.{◌≡◌, ◌⊎◌, ◌<◌, ◌+◌, ℕ, zero, suc, List, [], ◌∷◌, ◌++◌, length, map, Contains, slice_get, slice_index_or, Option, Some, None, refl}
use Rattle.std.specs.List.{AllByRecursion, AllZip, filter_map}
use Rattle.std.proofs.Common.{ap, subst, ◌∙◌, arith, inl, inr}
use Rattle.solve_laws.proofs.Elements.{nothing, first, later, parted}

module _ {X : Type 0} where
  pub contains_get : (xs : List X) (x : X) → Contains xs x → (k : ℕ) × (slice_get xs k ≡ Some x)
  contains_get [] x h = absurd (nothing x h)
  contains_get (y ∷ xs) x h = elim (parted x y xs h) [ inl e ↦ (0, ap (λ z. Some z) e) | inr m ↦ let r = contains_get xs x m in (suc r.0, r.1) ]

  pub get_contains : (xs : List X) (k : ℕ) (x : X) → slice_get xs k ≡ Some x → Contains xs x
  get_contains [] k x e = absurd cc
  get_contains (y ∷ xs) zero x e = first x y xs cc
  get_contains (y ∷ xs) (suc k) x e = later x y xs (get_contains xs k x e)

  pub all_at : (P : X → Type 0) (xs : List X) (k : ℕ) (x : X) → AllByRecursion P xs → slice_get xs k ≡ Some x → P x
  all_at P [] k x h e = absurd cc
  all_at P (y ∷ xs) zero x h e = let same : y ≡ x = cc in subst P same h.0
  all_at P (y ∷ xs) (suc k) x h e = all_at P xs k x h.1 e

  pub all_of : (P : X → Type 0) (xs : List X) (x : X) → AllByRecursion P xs → Contains xs x → P x
  all_of P xs x h m = let r = contains_get xs x m in all_at P xs r.0 x h r.1

  pub all_from : (P : X → Type 0) (xs : List X) → ((x : X) → Contains xs x → P x) → AllByRecursion P xs
  all_from P [] h = tt
  all_from P (x ∷ xs) h = (h x (first x x xs refl), all_from P xs (λ y m. h y (later y x xs m)))

  pub some_same : (x y : X) → Some x ≡ Some y → x ≡ y
  some_same x y e = cc

  pub get_front : (xs ys : List X) (k : ℕ) (x : X) → slice_get xs k ≡ Some x → slice_get (xs ++ ys) k ≡ Some x
  get_front [] ys k x e = absurd cc
  get_front (y ∷ xs) ys zero x e = e
  get_front (y ∷ xs) ys (suc k) x e = get_front xs ys k x e

  pub get_back : (xs ys : List X) (k : ℕ) → slice_get (xs ++ ys) (length xs + k) ≡ slice_get ys k
  get_back [] ys k = ap (slice_get ys) (omega arith)
  get_back (y ∷ xs) ys k = let e : suc (length xs) + k ≡ suc (length xs + k) = omega arith in rw e (get_back xs ys k)

  pub get_parted : (xs ys : List X) (k : ℕ) (x : X) → slice_get (xs ++ ys) k ≡ Some x → (slice_get xs k ≡ Some x) ⊎ ((j : ℕ) × (length xs + j ≡ k) × (slice_get ys j ≡ Some x))
  get_parted [] ys k x e = inr (k, omega arith, e)
  get_parted (y ∷ xs) ys zero x e = inl e
  get_parted (y ∷ xs) ys (suc k) x e = elim (get_parted xs ys k x e) [ inl h ↦ inl h | inr h ↦ let sum = h.1 in inr (h.0, omega (arith, sum), h.2) ]

  pub index_from_get : (xs : List X) (k : ℕ) (x d : X) → slice_get xs k ≡ Some x → slice_index_or xs k d ≡ x
  index_from_get [] k x d e = absurd cc
  index_from_get (y ∷ xs) zero x d e = some_same y x e
  index_from_get (y ∷ xs) (suc k) x d e = index_from_get xs k x d e

  pub get_below : (xs : List X) (k : ℕ) → k < length xs → (x : X) × (slice_get xs k ≡ Some x)
  get_below [] k l = absurd (omega (arith, l))
  get_below (y ∷ xs) zero l = (y, refl)
  get_below (y ∷ xs) (suc k) l = get_below xs k (omega (arith, l))

  pub get_within : (xs : List X) (k : ℕ) (x : X) → slice_get xs k ≡ Some x → k < length xs
  get_within [] k x e = absurd cc
  get_within (y ∷ xs) zero x e = omega arith
  get_within (y ∷ xs) (suc k) x e = let less = get_within xs k x e in omega (arith, less)

module _ {X Y : Type 0} where
  pub get_map : (f : X → Y) (xs : List X) (k : ℕ) (x : X) → slice_get xs k ≡ Some x → slice_get (map f xs) k ≡ Some (f x)
  get_map f [] k x e = absurd cc
  get_map f (y ∷ xs) zero x e = ap (λ z. Some (f z)) (some_same y x e)
  get_map f (y ∷ xs) (suc k) x e = get_map f xs k x e

  pub get_mapped : (f : X → Y) (xs : List X) (k : ℕ) (y : Y) → slice_get (map f xs) k ≡ Some y → (x : X) × (slice_get xs k ≡ Some x) × (f x ≡ y)
  get_mapped f [] k y e = absurd cc
  get_mapped f (x ∷ xs) zero y e = (x, refl, some_same (f x) y e)
  get_mapped f (x ∷ xs) (suc k) y e = get_mapped f xs k y e

  pub contains_map : (f : X → Y) (xs : List X) (x : X) → Contains xs x → Contains (map f xs) (f x)
  contains_map f xs x m = let r = contains_get xs x m in get_contains (map f xs) r.0 (f x) (get_map f xs r.0 x r.1)

  pub contains_mapped : (f : X → Y) (xs : List X) (y : Y) → Contains (map f xs) y → (x : X) × Contains xs x × (f x ≡ y)
  contains_mapped f xs y m = let r = contains_get (map f xs) y m in let s = get_mapped f xs r.0 y r.1 in (s.0, get_contains xs r.0 s.0 s.1, s.2)

  zip_none : (R : X → Y → Type 0) (xs : List X) → AllZip R xs [] → xs ≡ []
  zip_none R [] h = refl
  zip_none R (x ∷ xs) h = absurd h

  pub zip_right : (R : X → Y → Type 0) (xs : List X) (ys : List Y) → AllZip R xs ys → (k : ℕ) (x : X) → slice_get xs k ≡ Some x → (y : Y) × (slice_get ys k ≡ Some y) × R x y
  zip_right R [] ys h k x e = absurd cc
  zip_right R (z ∷ xs) [] h k x e = absurd h
  zip_right R (z ∷ xs) (y ∷ ys) h zero x e = (y, refl, subst (λ w. R w y) (some_same z x e) h.0)
  zip_right R (z ∷ xs) (y ∷ ys) h (suc k) x e = zip_right R xs ys h.1 k x e

  pub zip_left : (R : X → Y → Type 0) (xs : List X) (ys : List Y) → AllZip R xs ys → (k : ℕ) (y : Y) → slice_get ys k ≡ Some y → (x : X) × (slice_get xs k ≡ Some x) × R x y
  zip_left R [] [] h k y e = absurd cc
  zip_left R [] (z ∷ ys) h k y e = absurd h
  zip_left R (x ∷ xs) [] h k y e = absurd h
  zip_left R (x ∷ xs) (z ∷ ys) h zero y e = (x, refl, subst (λ w. R x w) (some_same z y e) h.0)
  zip_left R (x ∷ xs) (z ∷ ys) h (suc k) y e = zip_left R xs ys h.1 k y e

  pub zip_long : (R : X → Y → Type 0) (xs : List X) (ys : List Y) → AllZip R xs ys → length xs ≡ length ys
  zip_long R [] [] h = refl
  zip_long R [] (y ∷ ys) h = absurd h
  zip_long R (x ∷ xs) [] h = absurd h
  zip_long R (x ∷ xs) (y ∷ ys) h = ap (λ n. suc n) (zip_long R xs ys h.1)

  kept_by : (f : X → Option Y) (x : X) (xs : List X) (y : Y) (o : Option Y) → f x ≡ o → Contains (filter_map f (x ∷ xs)) y
      → ((f x ≡ Some y)) ⊎ Contains (filter_map f xs) y
  kept_by f x xs y None e m = inr (rw e at m)
  kept_by f x xs y (Some z) e m = let m' : Contains (z ∷ filter_map f xs) y = rw e at m in elim (parted y z (filter_map f xs) m') [ inl s ↦ inl (e ∙ ap (λ w. Some w) s) | inr r ↦ inr r ]

  pub from_filter_map : (f : X → Option Y) (xs : List X) (y : Y) → Contains (filter_map f xs) y → (x : X) × Contains xs x × (f x ≡ Some y)
  from_filter_map f [] y m = absurd (nothing y m)
  from_filter_map f (x ∷ xs) y m = elim (kept_by f x xs y (f x) refl m) [
    | inl e ↦ (x, first x x xs refl, e)
    | inr r ↦ let s = from_filter_map f xs y r in (s.0, later s.0 x xs s.1, s.2)
  ]

  passed_by : (f : X → Option Y) (x : X) (xs : List X) (y : Y) (o : Option Y) → f x ≡ o → Contains (filter_map f xs) y → Contains (filter_map f (x ∷ xs)) y
  passed_by f x xs y None e m = rw e m
  passed_by f x xs y (Some z) e m = let r = later y z (filter_map f xs) m in rw e r

  pub into_filter_map : (f : X → Option Y) (xs : List X) (x : X) (y : Y) → Contains xs x → f x ≡ Some y → Contains (filter_map f xs) y
  into_filter_map f [] x y m e = absurd (nothing x m)
  into_filter_map f (z ∷ xs) x y m e = elim (parted x z xs m) [
    | inl s ↦ let here = ap f s ∙ e in let r = first y y (filter_map f xs) refl in rw here r
    | inr r ↦ passed_by f z xs y (f z) refl (into_filter_map f xs x y r e)
  ]
