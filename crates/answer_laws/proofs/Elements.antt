-- The elements of lists that are cut, filtered and joined.
use Rattle.std.specs.Prelude.{◌≡◌, ◌⊎◌, ◌++◌, ℕ, zero, suc, List, [], ◌∷◌, Contains, drop, slice_get, Option, Some, None, map, refl}
use Rattle.std.specs.List.{filter_map, flat_map, cons_option, AllByRecursion}
use Rattle.std.proofs.Common.{arith, sym, ap, subst, inl, inr}
pub use Rattle.solve_laws.proofs.Elements.{nothing, first, later, parted, only}
use Rattle.std.proofs.lemmas.List.Elements.{Contains-append_left, Contains-append_right, Contains-append_cases}

module _ {X : Type 0} where
  pub all_contained : (P : X → Type 0) (xs : List X) → ((x : X) → Contains xs x → P x) → AllByRecursion P xs
  all_contained P [] h = tt
  all_contained P (x ∷ xs) h = (h x (first x x xs refl), all_contained P xs (λ y o. h y (later y x xs o)))

  pub contained_has : (P : X → Type 0) (xs : List X) (x : X) → AllByRecursion P xs → Contains xs x → P x
  contained_has P [] x h o = absurd (nothing x o)
  contained_has P (y ∷ ys) x h o = elim (parted x y ys o) [ inl e ↦ subst P e h.0 | inr l ↦ contained_has P ys x h.1 l ]

  pub at_number : (xs : List X) (x : X) → Contains xs x → (i : ℕ) × (slice_get xs i ≡ Some x)
  at_number [] x o = absurd (nothing x o)
  at_number (y ∷ ys) x o = elim (parted x y ys o) [ inl e ↦ (0, ap Some e) | inr l ↦ let r = at_number ys x l in (suc r.0, r.1) ]

  pub stands_in : (xs : List X) (i : ℕ) (x : X) → slice_get xs i ≡ Some x → Contains xs x
  stands_in [] i x e = absurd (cc)
  stands_in (y ∷ ys) zero x e = first x y ys (cc)
  stands_in (y ∷ ys) (suc i) x e = later x y ys (stands_in ys i x e)

module _ {Y : Type 0} where
  kept_first : (o : Option Y) (ys : List Y) (y : Y) → o ≡ Some y → Contains (cons_option o ys) y
  kept_first None ys y e = absurd (cc)
  kept_first (Some w) ys y e = first y w ys (cc)

  kept_later : (o : Option Y) (ys : List Y) (y : Y) → Contains ys y → Contains (cons_option o ys) y
  kept_later None ys y h = h
  kept_later (Some w) ys y h = later y w ys h

module _ {X Y : Type 0} where
  -- an element of the pieces is one of some piece
  pub piece_of : (f : X → List Y) (xs : List X) (y : Y) → Contains (flat_map f xs) y → (x : X) × Contains xs x × Contains (f x) y
  piece_of f [] y o = absurd (nothing y o)
  piece_of f (x ∷ xs) y o = elim (Contains-append_cases (f x) (flat_map f xs) y o) [
    | inl here ↦ (x, first x x xs refl, here)
    | inr rest ↦ let r = piece_of f xs y rest in (r.0, later r.0 x xs r.1, r.2)
  ]

  pub in_pieces : (f : X → List Y) (xs : List X) (x : X) (y : Y) → Contains xs x → Contains (f x) y → Contains (flat_map f xs) y
  in_pieces f [] x y o h = absurd (nothing x o)
  in_pieces f (z ∷ zs) x y o h = elim (parted x z zs o) [
    | inl e ↦ Contains-append_left (f z) (flat_map f zs) y (subst (λ w. Contains (f w) y) (sym e) h)
    | inr l ↦ Contains-append_right (f z) (flat_map f zs) y (in_pieces f zs x y l h)
  ]

  pub mapped_from : (f : X → Y) (xs : List X) (y : Y) → Contains (map f xs) y → (x : X) × Contains xs x × (f x ≡ y)
  mapped_from f [] y o = absurd (nothing y o)
  mapped_from f (x ∷ xs) y o = elim (parted y (f x) (map f xs) o) [
    | inl e ↦ (x, first x x xs refl, e)
    | inr rest ↦ let r = mapped_from f xs y rest in (r.0, later r.0 x xs r.1, r.2)
  ]

  pub in_mapped : (f : X → Y) (xs : List X) (x : X) → Contains xs x → Contains (map f xs) (f x)
  in_mapped f [] x o = absurd (nothing x o)
  in_mapped f (z ∷ zs) x o = elim (parted x z zs o) [
    | inl e ↦ subst (λ w. Contains (f z ∷ map f zs) (f w)) e (first (f z) (f z) (map f zs) refl)
    | inr l ↦ later (f x) (f z) (map f zs) (in_mapped f zs x l)
  ]

  kept_cases : (p : X → Option Y) (x : X) (xs : List X) (y : Y) (o : Option Y) → p x ≡ o → (Contains (filter_map p xs) y → (z : X) × Contains xs z × (p z ≡ Some y))
      → Contains (cons_option o (filter_map p xs)) y → (z : X) × Contains (x ∷ xs) z × (p z ≡ Some y)
  kept_cases p x xs y None e more h = let r = more h in (r.0, later r.0 x xs r.1, r.2)
  kept_cases p x xs y (Some w) e more h = elim (parted y w (filter_map p xs) h) [
    | inl same ↦ (x, first x x xs refl, subst (λ v. p x ≡ Some v) same e)
    | inr rest ↦ let r = more rest in (r.0, later r.0 x xs r.1, r.2)
  ]

  -- what is kept comes of an element
  pub kept_from : (p : X → Option Y) (xs : List X) (y : Y) → Contains (filter_map p xs) y → (x : X) × Contains xs x × (p x ≡ Some y)
  kept_from p [] y o = absurd (nothing y o)
  kept_from p (x ∷ xs) y o = kept_cases p x xs y (p x) refl (kept_from p xs y) o

  pub in_kept : (p : X → Option Y) (xs : List X) (x : X) (y : Y) → Contains xs x → p x ≡ Some y → Contains (filter_map p xs) y
  in_kept p [] x y o e = absurd (nothing x o)
  in_kept p (z ∷ zs) x y o e = elim (parted x z zs o) [
    | inl same ↦ kept_first (p z) (filter_map p zs) y (subst (λ w. p w ≡ Some y) (sym same) e)
    | inr l ↦ kept_later (p z) (filter_map p zs) y (in_kept p zs x y l e)
  ]

-- ---- a fact of each element

pub all_with : {X : Type 0} (P R : X → Type 0) → ((x : X) → P x → R x) → (xs : List X) → AllByRecursion P xs → AllByRecursion R xs
all_with P R f [] h = tt
all_with P R f (x ∷ xs) h = (f x h.0, all_with P R f xs h.1)

pub all_drop : {X : Type 0} (P : X → Type 0) (n : ℕ) (xs : List X) → AllByRecursion P xs → AllByRecursion P (drop n xs)
all_drop P zero xs h = h
all_drop P (suc n) [] h = tt
all_drop P (suc n) (x ∷ xs) h = all_drop P n xs h.1

pub all_map : {X Y : Type 0} (P : Y → Type 0) (k : X → Y) (xs : List X) → AllByRecursion (λ x. P (k x)) xs → AllByRecursion P (map k xs)
all_map P k [] h = tt
all_map P k (x ∷ xs) h = (h.0, all_map P k xs h.1)

pub all_by-append : {A : Type 0} (P : A → Type 0) (xs ys : List A) → AllByRecursion P xs → AllByRecursion P ys → AllByRecursion P (xs ++ ys)
all_by-append P [] ys h k = k
all_by-append P (x ∷ xs) ys h k = (h.0, all_by-append P xs ys h.1 k)
