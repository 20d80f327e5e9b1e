-- The orders of a list.
use Rattle.std.specs.Prelude.{◌≡◌, ℕ, zero, suc, Bool, true, List, [], ◌∷◌, ◌++◌, length, map, flat_map, Contains, refl}
use Rattle.std.specs.List.{list_all}
use Rattle.std.proofs.Common.{sym, ap, subst, ◌∙◌, inl, inr}
use Rattle.std.proofs.lemmas.Bool.{and_parts}
use Rattle.std.proofs.lemmas.List.Elements.{Contains-append_cases}
use Rattle.solve_model.specs.Firsts.{picks, orders, IsFirstIn}
use Rattle.solve_laws.proofs.Elements.{nothing, first, later, parted, only}
use Rattle.again_laws.proofs.Lists.{contains_mapped, some_same}

module _ {X Y : Type 0} where
  pub from_flat_map : (f : Y → List X) (ys : List Y) (x : X) → Contains (flat_map f ys) x → (y : Y) × Contains ys y × Contains (f y) x
  from_flat_map f [] x m = absurd (nothing x m)
  from_flat_map f (y ∷ ys) x m = elim (Contains-append_cases (f y) (flat_map f ys) x m) [
    | inl h ↦ (y, first y y ys refl, h)
    | inr h ↦ let r = from_flat_map f ys x h in (r.0, later r.0 y ys r.1, r.2)
  ]

module _ {X : Type 0} where
  -- what is picked, and what is left, stand in the list
  picked : (xs : List X) (p : X × List X) → Contains (picks xs) p → Contains xs p.0 × ((y : X) → Contains p.1 y → Contains xs y)
  picked [] p m = absurd (nothing p m)
  picked (x ∷ xs) p m = elim (parted p (x, xs) _ m) [
    | inl e ↦ (first p.0 x xs (ap (λ (q : X × List X). q.0) e), λ y o. later y x xs (subst (λ (q : X × List X). Contains q.1 y) (sym e) o))
    | inr h ↦
        let r = contains_mapped (λ (q : X × List X). let z : X × List X = (q.0, x ∷ q.1) in z) (picks xs) p h in
        let rest = picked xs r.0 r.1 in (
          later p.0 x xs (subst (λ (q : X × List X). Contains xs q.0) r.2 rest.0),
          λ y o. elim (parted y x r.0.1 (subst (λ (q : X × List X). Contains q.1 y) (sym r.2) o)) [ inl e ↦ first y x xs e | inr k ↦ later y x xs (rest.1 y k) ],
        )
  ]

  pub order_within : (n : ℕ) (xs o : List X) → Contains (orders n xs) o → (y : X) → Contains o y → Contains xs y
  order_within zero xs o m y k = absurd (nothing y (subst (λ z. Contains z y) (sym (only o [] m)) k))
  order_within (suc n) xs o m y k =
      let r = from_flat_map (λ (p : X × List X). map (λ rest. p.0 ∷ rest) (orders n p.1)) (picks xs) o m in
      let q = contains_mapped (λ rest. r.0.0 ∷ rest) (orders n r.0.1) o r.2 in
      let at = picked xs r.0 r.1 in
      elim (parted y r.0.0 q.0 (subst (λ z. Contains z y) (sym q.2) k)) [ inl e ↦ subst (Contains xs) e at.0 | inr j ↦ at.1 y (order_within n r.0.1 q.0 q.1 y j) ]

  pub order_long : (n : ℕ) (xs o : List X) → Contains (orders n xs) o → length o ≡ n
  order_long zero xs o m = ap length (sym (only o [] m))
  order_long (suc n) xs o m =
      let r = from_flat_map (λ (p : X × List X). map (λ rest. p.0 ∷ rest) (orders n p.1)) (picks xs) o m in
      let q = contains_mapped (λ rest. r.0.0 ∷ rest) (orders n r.0.1) o r.2 in
      ap length (sym q.2) ∙ ap (λ k. suc k) (order_long n r.0.1 q.0 q.1)

  -- the first order is the list itself
  pub first_order : (xs : List X) → (rest : List (List X)) × (orders (length xs) xs ≡ xs ∷ rest)
  first_order [] = ([], refl)
  first_order (x ∷ xs) =
      let r = first_order xs in
      let tail = flat_map (λ (p : X × List X). map (λ rest. p.0 ∷ rest) (orders (length xs) p.1)) (map (λ (p : X × List X). let z : X × List X = (p.0, x ∷ p.1) in z) (picks xs)) in
      (map (λ rest. x ∷ rest) r.0 ++ tail, ap (λ os. map (λ rest. x ∷ rest) os ++ tail) r.1)

  pub first_stands : (P : X → Type 0) (xs : List X) (x : X) → IsFirstIn P xs x → Contains xs x × P x
  first_stands P [] x h = absurd cc
  first_stands P (y ∷ ys) x (inl h) = let same = some_same x y h.0 in (first x y ys (sym same), subst P (sym same) h.1)
  first_stands P (y ∷ ys) x (inr h) = let r = first_stands P ys x h.1 in (later x y ys r.0, r.1)

  pub all_passes : (p : X → Bool) (xs : List X) (x : X) → list_all p xs ≡ true → Contains xs x → p x ≡ true
  all_passes p [] x h m = absurd (nothing x m)
  all_passes p (y ∷ xs) x h m =
      let both = and_parts (p y) (list_all p xs) h in
      elim (parted x y xs m) [ inl e ↦ subst (λ z. p z ≡ true) e both.0 | inr k ↦ all_passes p xs x both.1 k ]

-- orders of mapped places are mapped orders
module _ {X Y : Type 0} (f : X → Y) where
  abbrev both : X × List X → Y × List Y
  both p = (f p.0, map f p.1)

  map-map : {A B C : Type 0} (h : B → C) (k : A → B) (xs : List A) → map h (map k xs) ≡ map (λ x. h (k x)) xs
  map-map h k [] = refl
  map-map h k (x ∷ xs) = ap (λ ys. h (k x) ∷ ys) (map-map h k xs)

  map-append : {A B : Type 0} (h : A → B) (xs ys : List A) → map h (xs ++ ys) ≡ map h xs ++ map h ys
  map-append h [] ys = refl
  map-append h (x ∷ xs) ys = ap (λ zs. h x ∷ zs) (map-append h xs ys)

  picks-map : (xs : List X) → picks (map f xs) ≡ map both (picks xs)
  picks-map [] = refl
  picks-map (x ∷ xs) =
      ap (λ ps. let z : Y × List Y = (f x, map f xs) in z ∷ map (λ (p : Y × List Y). let z : Y × List Y = (p.0, f x ∷ p.1) in z) ps) (picks-map xs)
      ∙ ap (λ ps. let z : Y × List Y = (f x, map f xs) in z ∷ ps)
      (map-map (λ (p : Y × List Y). let z : Y × List Y = (p.0, f x ∷ p.1) in z) both (picks xs)
      ∙ sym (map-map both (λ (p : X × List X). let z : X × List X = (p.0, x ∷ p.1) in z) (picks xs)))

  abbrev Mapped : ℕ → Type 0
  Mapped n = (xs : List X) → orders n (map f xs) ≡ map (map f) (orders n xs)

  one_mapped : (n : ℕ) → Mapped n → (ps : List (X × List X)) → flat_map (λ (p : Y × List Y). map (λ rest. p.0 ∷ rest) (orders n p.1)) (map both ps)
      ≡ map (map f) (flat_map (λ (p : X × List X). map (λ rest. p.0 ∷ rest) (orders n p.1)) ps)
  one_mapped n ih [] = refl
  one_mapped n ih (p ∷ ps) =
      let here : map (λ rest. f p.0 ∷ rest) (orders n (map f p.1)) ≡ map (map f) (map (λ rest. p.0 ∷ rest) (orders n p.1)) =
      ap (map (λ rest. f p.0 ∷ rest)) (ih p.1) ∙ map-map (λ rest. f p.0 ∷ rest) (map f) (orders n p.1) ∙ sym (map-map (map f) (λ rest. p.0 ∷ rest) (orders n p.1)) in
      ap (λ zs. zs ++ flat_map (λ (q : Y × List Y). map (λ rest. q.0 ∷ rest) (orders n q.1)) (map both ps)) here
      ∙ ap (λ zs. map (map f) (map (λ rest. p.0 ∷ rest) (orders n p.1)) ++ zs) (one_mapped n ih ps)
      ∙ sym (map-append (map f) (map (λ rest. p.0 ∷ rest) (orders n p.1)) (flat_map (λ (q : X × List X). map (λ rest. q.0 ∷ rest) (orders n q.1)) ps))

  pub orders-map : (n : ℕ) (xs : List X) → orders n (map f xs) ≡ map (map f) (orders n xs)
  orders-map zero xs = refl
  orders-map (suc n) xs = ap (flat_map (λ (p : Y × List Y). map (λ rest. p.0 ∷ rest) (orders n p.1))) (picks-map xs) ∙ one_mapped n (orders-map n) (picks xs)
