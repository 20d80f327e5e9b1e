-- What stands in a list, and that two lists in order with the same items are one.
use Rattle.std.proofs.Common.{◌≡◌, ◌<◌, ℕ, zero, suc, Bool, true, ◌⊎◌, List, [], ◌∷◌, ◌++◌, length, map, reverse, nat_eq, eqb, refl, sym, ap, ◌∙◌, arith, subst, inl, inr, get_or}
use Rattle.std.specs.List.{AllByRecursion, Contains, list_any, filter}
use Rattle.std.specs.List.Sorted.{IsStrictlySortedBy}
use Rattle.std.specs.declared.cmp.Ordering.{Ordering}
use Rattle.std.specs.declared.cmp.Ordering.TheVariants.{Less, Equal}
use Rattle.std.specs.Cmp.{IsTotalOrder}
use Rattle.std.proofs.lemmas.Cmp.{tied_itself}
use Rattle.std.proofs.lemmas.Map.Keys.{sorted_head, sorted_tail}
use Rattle.std.proofs.lemmas.Bool.{cases_Bool, or_cases, or_left, or_right}
use Rattle.std.proofs.lemmas.Bool.Decides.{nat_tests}
use Rattle.std.proofs.lemmas.List.{reverse-append}

abbrev pub In : {X : Type 0} → X → List X → Type 0
In x [] = ⊥
In x (y ∷ ys) = (x ≡ y) ⊎ In x ys

module _ {X : Type 0} where
  pub in_all : (P : X → Type 0) (x : X) (ys : List X) → AllByRecursion P ys → In x ys → P x
  in_all P x [] h i = absurd i
  in_all P x (y ∷ ys) h i = elim i [ inl e ↦ subst P (sym e) h.0 | inr j ↦ in_all P x ys h.1 j ]

  pub in_contains : (x : X) (ys : List X) → In x ys → Contains ys x
  in_contains x [] i = absurd i
  in_contains x (y ∷ ys) i = elim i [ inl e ↦ (0, omega arith, sym e) | inr j ↦ let r = in_contains x ys j in (suc r.0, omega (arith, r.1), r.2) ]

  pub contains_in : (x : X) (ys : List X) → Contains ys x → In x ys
  contains_in x ys c = at x ys c.0 c.1 c.2
    where
      at : (x : X) (ys : List X) (k : ℕ) → k < length ys → get_or ys k x ≡ x → In x ys
      at x [] k h e = let bad : ⊥ = omega (arith, h) in absurd bad
      at x (y ∷ ys) zero h e = inl (sym e)
      at x (y ∷ ys) (suc k) h e = inr (at x ys k (omega (arith, h)) e)

  pub in_append : (x : X) (xs ys : List X) → In x (xs ++ ys) → In x xs ⊎ In x ys
  in_append x [] ys i = inr i
  in_append x (y ∷ xs) ys i = elim i [ inl e ↦ inl (inl e) | inr j ↦ elim (in_append x xs ys j) [ inl k ↦ inl (inr k) | inr k ↦ inr k ] ]

  pub in_left : (x : X) (xs ys : List X) → In x xs → In x (xs ++ ys)
  in_left x [] ys i = absurd i
  in_left x (y ∷ xs) ys i = elim i [ inl e ↦ inl e | inr j ↦ inr (in_left x xs ys j) ]

  pub in_right : (x : X) (xs ys : List X) → In x ys → In x (xs ++ ys)
  in_right x [] ys i = i
  in_right x (y ∷ xs) ys i = inr (in_right x xs ys i)

  -- two lists in order
  pub unique : (R : X → X → Ordering) → IsTotalOrder R → (xs ys : List X) → IsStrictlySortedBy R xs → IsStrictlySortedBy R ys
      → ((x : X) → In x xs → In x ys) → ((x : X) → In x ys → In x xs) → xs ≡ ys
  unique R o [] [] a b f g = refl
  unique R o [] (y ∷ ys) a b f g = absurd (g y (inl refl))
  unique R o (x ∷ xs) [] a b f g = absurd (f x (inl refl))
  unique R o (x ∷ xs) (y ∷ ys) a b f g =
      let same : x ≡ y = heads x xs y ys (sorted_head R x xs a) (sorted_head R y ys b) (f x (inl refl)) (g y (inl refl)) in
      let below : AllByRecursion (λ z. R x z ≡ Less) ys = subst (λ (w : X). AllByRecursion (λ z. R w z ≡ Less) ys) (sym same) (sorted_head R y ys b) in
      let rest = unique R o xs ys (sorted_tail R x xs a) (sorted_tail R y ys b)
      (λ z i. behind z x y ys same (in_all (λ z. R x z ≡ Less) z xs (sorted_head R x xs a) i) (f z (inr i)))
      (λ z i. behind z y x xs (sym same) (in_all (λ z. R y z ≡ Less) z ys (sorted_head R y ys b) i) (g z (inr i))) in
      ap (λ w. w ∷ xs) same ∙ ap (λ l. y ∷ l) rest
    where
      less_self : (x : X) → R x x ≡ Less → ⊥
      less_self x e = let bad : Less ≡ Equal = sym e ∙ tied_itself o x in absurd cc

      less_both : (x y : X) → R x y ≡ Less → R y x ≡ Less → ⊥
      less_both x y e f = less_self x (o.trans x y x e f)

      heads : (x : X) (xs : List X) (y : X) (ys : List X) → AllByRecursion (λ z. R x z ≡ Less) xs → AllByRecursion (λ z. R y z ≡ Less) ys → In x (y ∷ ys) → In y (x ∷ xs) → x ≡ y
      heads x xs y ys a b i j = elim i [
        | inl e ↦ e
        | inr k ↦ elim j [ inl e ↦ sym e | inr l ↦ absurd (less_both x y (in_all (λ z. R x z ≡ Less) y xs a l) (in_all (λ z. R y z ≡ Less) x ys b k)) ]
      ]

      behind : (z x y : X) (ys : List X) → x ≡ y → R x z ≡ Less → In z (y ∷ ys) → In z ys
      behind z x y ys same l i = elim i [ inl e ↦ absurd (less_self x (subst (λ (w : X). R x w ≡ Less) (e ∙ sym same) l)) | inr k ↦ k ]

  -- a greater item at the end
  pub sorted_push : (R : X → X → Ordering) (xs : List X) (y : X) → IsStrictlySortedBy R xs → AllByRecursion (λ x. R x y ≡ Less) xs → IsStrictlySortedBy R (xs ++ y ∷ [])
  unfolding IsStrictlySortedBy
  sorted_push R [] y a h = (tt, tt)
  sorted_push R (x ∷ xs) y a h = (push (λ z. R x z ≡ Less) xs y a.0 h.0, sorted_push R xs y a.1 h.1)
    where
      push : (P : X → Type 0) (xs : List X) (y : X) → AllByRecursion P xs → P y → AllByRecursion P (xs ++ y ∷ [])
      push P [] y h p = (p, tt)
      push P (x ∷ xs) y h p = (h.0, push P xs y h.1 p)

  pub sorted_cons : (R : X → X → Ordering) (x : X) (xs : List X) → AllByRecursion (λ y. R x y ≡ Less) xs → IsStrictlySortedBy R xs → IsStrictlySortedBy R (x ∷ xs)
  unfolding IsStrictlySortedBy
  sorted_cons R x xs h a = (h, a)

  pub sorted_none : (R : X → X → Ordering) → IsStrictlySortedBy R []
  unfolding IsStrictlySortedBy
  sorted_none R = tt

  -- two lists in order, all of the first below all of the second
  pub sorted_append : (R : X → X → Ordering) (xs ys : List X) → IsStrictlySortedBy R xs → IsStrictlySortedBy R ys
      → AllByRecursion (λ x. AllByRecursion (λ y. R x y ≡ Less) ys) xs → IsStrictlySortedBy R (xs ++ ys)
  unfolding IsStrictlySortedBy
  sorted_append R [] ys a b h = b
  sorted_append R (x ∷ xs) ys a b h = (join (λ z. R x z ≡ Less) xs ys a.0 h.0, sorted_append R xs ys a.1 b h.1)
    where
      join : (P : X → Type 0) (xs ys : List X) → AllByRecursion P xs → AllByRecursion P ys → AllByRecursion P (xs ++ ys)
      join P [] ys h k = k
      join P (x ∷ xs) ys h k = (h.0, join P xs ys h.1 k)

module _ {X : Type 0} where
  pub in_filter : (q : X → Bool) (x : X) (xs : List X) → In x (filter q xs) → In x xs × (q x ≡ true)
  in_filter q x [] i = absurd i
  in_filter q x (y ∷ xs) i = elim (cases_Bool (q y)) [
    | inl h ↦ first h (λ k. in_filter q x xs k) (rw h at i)
    | inr h ↦ let r = in_filter q x xs (rw h at i) in (inr r.0, r.1)
  ]
    where
      first : q y ≡ true → (In x (filter q xs) → In x xs × (q x ≡ true)) → In x (y ∷ filter q xs) → In x (y ∷ xs) × (q x ≡ true)
      first h f i = elim i [ inl e ↦ (inl e, ap q e ∙ h) | inr k ↦ let r = f k in (inr r.0, r.1) ]

  pub filter_in : (q : X → Bool) (x : X) (xs : List X) → In x xs → q x ≡ true → In x (filter q xs)
  filter_in q x [] i h = absurd i
  filter_in q x (y ∷ xs) i h = elim i [
    | inl e ↦ let pass : q y ≡ true = ap q (sym e) ∙ h in rw pass (inl e)
    | inr k ↦ let later = filter_in q x xs k h in elim (cases_Bool (q y)) [ inl p ↦ rw p (inr later) | inr p ↦ rw p later ]
  ]

  pub in_reverse : (x : X) (xs : List X) → In x (reverse xs) → In x xs
  in_reverse x [] i = i
  in_reverse x (y ∷ xs) i = elim (in_append x (reverse xs) (y ∷ []) (subst (λ l. In x l) (reverse-append (y ∷ []) xs) i)) [
    | inl k ↦ inr (in_reverse x xs k)
    | inr k ↦ elim k [ inl e ↦ inl e | inr j ↦ absurd j ]
  ]

  pub reverse_in : (x : X) (xs : List X) → In x xs → In x (reverse xs)
  reverse_in x [] i = i
  reverse_in x (y ∷ xs) i = subst (λ l. In x l) (sym (reverse-append (y ∷ []) xs)) (elim i [
    | inl e ↦ in_right x (reverse xs) (y ∷ []) (inl e)
    | inr k ↦ in_left x (reverse xs) (y ∷ []) (reverse_in x xs k)
  ])

  pub any_found : (p : X → Bool) (xs : List X) → list_any p xs ≡ true → (x : X) × In x xs × (p x ≡ true)
  any_found p [] h = absurd cc
  any_found p (x ∷ xs) h = elim (or_cases (p x) (list_any p xs) h) [ inl e ↦ (x, inl refl, e) | inr k ↦ let r = any_found p xs k in (r.0, inr r.1, r.2) ]

  pub any_there : (p : X → Bool) (x : X) (xs : List X) → In x xs → p x ≡ true → list_any p xs ≡ true
  any_there p x [] i h = absurd i
  any_there p x (y ∷ xs) i h = elim i [ inl e ↦ or_left (p y) (list_any p xs) (ap p (sym e) ∙ h) | inr k ↦ or_right (p y) (list_any p xs) (any_there p x xs k h) ]

pub in_map : {X Y : Type 0} (f : X → Y) (y : Y) (xs : List X) → In y (map f xs) → (x : X) × In x xs × (f x ≡ y)
in_map f y [] i = absurd i
in_map f y (x ∷ xs) i = elim i [ inl e ↦ (x, inl refl, sym e) | inr k ↦ let r = in_map f y xs k in (r.0, inr r.1, r.2) ]

pub map_in : {X Y : Type 0} (f : X → Y) (x : X) (xs : List X) → In x xs → In (f x) (map f xs)
map_in f x [] i = absurd i
map_in f x (y ∷ xs) i = elim i [ inl e ↦ inl (ap f e) | inr k ↦ inr (map_in f x xs k) ]

-- the test of numbers
pub has_in : (n : ℕ) (ns : List ℕ) → list_any (nat_eq n) ns ≡ true → In n ns
has_in n [] h = absurd cc
has_in n (m ∷ ns) h = elim (or_cases (eqb n m) (list_any (nat_eq n) ns) h) [ inl e ↦ let same : n ≡ m = grind (arith, nat_tests) in inl same | inr k ↦ inr (has_in n ns k) ]

pub in_has : (n : ℕ) (ns : List ℕ) → In n ns → list_any (nat_eq n) ns ≡ true
in_has n [] i = absurd i
in_has n (m ∷ ns) i = elim i [
  | inl e ↦ let t : eqb n m ≡ true = grind (arith, nat_tests, e) in or_left (eqb n m) (list_any (nat_eq n) ns) t
  | inr j ↦ or_right (eqb n m) (list_any (nat_eq n) ns) (in_has n ns j)
]
