-- Pairs of distinct variables in order.
use Rattle.std.proofs.Common.{◌≡◌, ℕ, ◌<◌, Bool, true, false, ◌&&◌, ◌||◌, ◌⊎◌, List, [], ◌∷◌, ◌++◌, length, map, fold, refl, sym, ap, ◌∙◌, arith, inl}
use Rattle.std.proofs.Common.{inr, subst, codes, nat_eq, ltb, eqb, nat_lt}
use Rattle.std.specs.List.{list_any, filter, AllByRecursion}
use Rattle.std.specs.Ordering.{nat_cmp, ordering_then}
use Rattle.std.specs.declared.cmp.Ordering.TheVariants.{Less, Equal, Greater}
use Rattle.std.specs.Str.{bytes_eq}
use Rattle.std.proofs.lemmas.Cmp.{nat_cmp_total, tied_itself}
use Rattle.std.proofs.lemmas.List.{map-append}
use Rattle.std.proofs.lemmas.List.Kept.{IsStrictlySortedBy-filter}
use Rattle.std.proofs.lemmas.Map.Keys.{sorted_head, sorted_tail}
use Rattle.std.proofs.lemmas.Bool.{cases_Bool, or_cases, or_left, or_right, and_parts, and_from}
use Rattle.std.proofs.lemmas.Bool.Decides.{nat_tests}
use Rattle.mm_base.specs.declared.symbols.Sym.{Sym}
use Rattle.mm_base.specs.declared.symbols.Pair.{Pair}
use Rattle.mm_model.specs.Names.{Name, contains}
use Rattle.mm_model.specs.Statements.{Statement, has_keyword, symbols_in, active, path, with_keyword}
use Rattle.mm_model.specs.Frames as model
use Rattle.mm_model.specs.Frames.{symbols}
use Rattle.frame_lists.specs.declared.listed.Listed.{Listed}
use Rattle.frame_lists.specs.declared.scope.Scope.{Scope}
use Rattle.frame_lists.specs.Lists.{AreOf}
use Rattle.frame_lists.specs.Entries.{kind_in}
use Rattle.frame_lists.specs.Orders.{Rises, PairsRise, ArePairs}
use Rattle.frame_lists.specs.Steps.{has, symbols_at, chosen_more, chosen, pairs_with, pairs_all, found_pairs, pair_of}
use Rattle.frame_lists.proofs.Keywords.{is_distinct, kind-is_distinct}
use Rattle.frame_lists.proofs.PairOrder.{pair_cmp, pair_total}
use Rattle.frame_lists.proofs.Members.{In, in_all, in_contains, contains_in, in_map, map_in, in_filter, filter_in, in_append, in_left, in_right}
use Rattle.frame_lists.proofs.Members.{any_there, unique, sorted_cons, sorted_none, sorted_append}
use Rattle.frame_lists.proofs.Numbered.{Numbered, here, on-is}
use Rattle.frame_lists.proofs.ByNumber.{has_symbol, number, numbers_passing, contains-symbols, any-turned, passing-rise, to-passing, from-passing, names-fresh, name-self}
use Rattle.frame_lists.proofs.Added.{map-reverse}
use Rattle.frame_lists.proofs.Passing.{state}
use Rattle.frame_lists.proofs.StateLaws.{IsGood, statements_of, joined, distinct-are}
use Rattle.frame_lists.proofs.MandatoryLaws.{symbols-is, filter-reverse}

-- ---- what was found

in_chosen : (set base : List ℕ) (ss : List Sym) (n : ℕ) → In n (fold (chosen_more set) base ss) → In n base ⊎ ((has set n ≡ true) × (has_symbol ss n ≡ true))
in_chosen set base [] n i = inl i
in_chosen set base (s ∷ ss) n i = elim (cases_Bool (has set s.0)) [
  | inl h ↦ elim (in_chosen set (base ++ s.0 ∷ []) ss n (rw h at i)) [
    | inl k ↦ elim (in_append n base (s.0 ∷ []) k) [
      | inl j ↦ inl j
      | inr j ↦ elim j [
        | inl e ↦ let t : nat_eq n s.0 ≡ true = grind (arith, nat_tests, e) in inr (ap (has set) e ∙ h, or_left (nat_eq n s.0) (has_symbol ss n) t)
        | inr none ↦ absurd none
      ]
    ]
    | inr k ↦ inr (k.0, or_right (nat_eq n s.0) (has_symbol ss n) k.1)
  ]
  | inr h ↦ elim (in_chosen set base ss n (rw h at i)) [ inl k ↦ inl k | inr k ↦ inr (k.0, or_right (nat_eq n s.0) (has_symbol ss n) k.1) ]
]

chosen_base : (set base : List ℕ) (ss : List Sym) (n : ℕ) → In n base → In n (fold (chosen_more set) base ss)
chosen_base set base [] n i = i
chosen_base set base (s ∷ ss) n i = elim (cases_Bool (has set s.0)) [
  | inl h ↦ rw h (chosen_base set (base ++ s.0 ∷ []) ss n (in_left n base (s.0 ∷ []) i))
  | inr h ↦ rw h (chosen_base set base ss n i)
]

chosen_in : (set base : List ℕ) (ss : List Sym) (n : ℕ) → has set n ≡ true → has_symbol ss n ≡ true → In n (fold (chosen_more set) base ss)
chosen_in set base [] n a h = absurd cc
chosen_in set base (s ∷ ss) n a h = elim (or_cases (nat_eq n s.0) (has_symbol ss n) h) [
  | inl e ↦ let same : n ≡ s.0 = grind (arith, nat_tests) in let there : has set s.0 ≡ true = ap (has set) (sym same) ∙ a in
      rw there (chosen_base set (base ++ s.0 ∷ []) ss n (in_right n base (s.0 ∷ []) (inl same)))
  | inr k ↦ elim (cases_Bool (has set s.0)) [ inl g ↦ rw g (chosen_in set (base ++ s.0 ∷ []) ss n a k) | inr g ↦ rw g (chosen_in set base ss n a k) ]
]

record With (one : ℕ) (others : List ℕ) (p : ℕ × ℕ) : Type 0 where
  pub first : p.0 ≡ one
  pub other : In p.1 others
  pub less : nat_lt p.0 p.1 ≡ true

in_with : (one : ℕ) (base : List (ℕ × ℕ)) (others : List ℕ) (p : ℕ × ℕ) → In p (pairs_with base one others) → In p base ⊎ With one others p
in_with one base [] p i = inl i
in_with one base (o ∷ others) p i = elim (cases_Bool (nat_lt one o)) [
  | inl h ↦ elim (in_with one (base ++ joined one o ∷ []) others p (rw h at i)) [
    | inl k ↦ elim (in_append p base (joined one o ∷ []) k) [
      | inl j ↦ inl j
      | inr j ↦ elim j [
        | inl e ↦ inr (record { first = ap (λ (q : ℕ × ℕ). q.0) e; other = inl (ap (λ (q : ℕ × ℕ). q.1) e); less = ap (λ (q : ℕ × ℕ). nat_lt q.0 q.1) e ∙ h })
        | inr none ↦ absurd none
      ]
    ]
    | inr w ↦ inr (record { first = w.first; other = inr w.other; less = w.less })
  ]
  | inr h ↦ elim (in_with one base others p (rw h at i)) [ inl k ↦ inl k | inr w ↦ inr (record { first = w.first; other = inr w.other; less = w.less }) ]
]

with_base : (one : ℕ) (base : List (ℕ × ℕ)) (others : List ℕ) (p : ℕ × ℕ) → In p base → In p (pairs_with base one others)
with_base one base [] p i = i
with_base one base (o ∷ others) p i = elim (cases_Bool (nat_lt one o)) [
  | inl h ↦ rw h (with_base one (base ++ joined one o ∷ []) others p (in_left p base (joined one o ∷ []) i))
  | inr h ↦ rw h (with_base one base others p i)
]

with_in : (one : ℕ) (base : List (ℕ × ℕ)) (others : List ℕ) (b : ℕ) → In b others → nat_lt one b ≡ true → In (joined one b) (pairs_with base one others)
with_in one base [] b i h = absurd i
with_in one base (o ∷ others) b i h = elim i [
  | inl e ↦ let yes : nat_lt one o ≡ true = ap (nat_lt one) (sym e) ∙ h in
      rw yes
      (with_base one (base ++ joined one o ∷ []) others (joined one b)
      (in_right (joined one b) base (joined one o ∷ []) (inl (ap (joined one) e))))
  | inr k ↦ elim (cases_Bool (nat_lt one o)) [ inl g ↦ rw g (with_in one (base ++ joined one o ∷ []) others b k h) | inr g ↦ rw g (with_in one base others b k h) ]
]

pub record Both (ones others : List ℕ) (p : ℕ × ℕ) : Type 0 where
  pub one : In p.0 ones
  pub other : In p.1 others
  pub less : nat_lt p.0 p.1 ≡ true

module _ (others : List ℕ) where
  abbrev pub all_from : List (ℕ × ℕ) → List ℕ → List (ℕ × ℕ)
  all_from base ones = fold (λ qs n. pairs_with qs n others) base ones

  pub in_all_pairs : (base : List (ℕ × ℕ)) (ones : List ℕ) (p : ℕ × ℕ) → In p (all_from base ones) → In p base ⊎ Both ones others p
  in_all_pairs base [] p i = inl i
  in_all_pairs base (n ∷ ones) p i = elim (in_all_pairs (pairs_with base n others) ones p i) [
    | inl k ↦ elim (in_with n base others p k) [ inl j ↦ inl j | inr w ↦ inr (record { one = inl w.first; other = w.other; less = w.less }) ]
    | inr b ↦ inr (record { one = inr b.one; other = b.other; less = b.less })
  ]

  all_base : (base : List (ℕ × ℕ)) (ones : List ℕ) (p : ℕ × ℕ) → In p base → In p (all_from base ones)
  all_base base [] p i = i
  all_base base (n ∷ ones) p i = all_base (pairs_with base n others) ones p (with_base n base others p i)

  pub all_in : (base : List (ℕ × ℕ)) (ones : List ℕ) (a b : ℕ) → In a ones → In b others → nat_lt a b ≡ true → In (joined a b) (all_from base ones)
  all_in base [] a b i j h = absurd i
  all_in base (n ∷ ones) a b i j h = elim i [
    | inl e ↦ all_base (pairs_with base n others) ones (joined a b) (subst (λ (m : ℕ). In (joined a b) (pairs_with base m others)) e (with_in a base others b j h))
    | inr k ↦ all_in (pairs_with base n others) ones a b k j h
  ]

module _ (l : Listed) (set : List ℕ) where
  -- the two stand together in the statement of this number
  abbrev pub together : ℕ → ℕ → ℕ → Bool
  together a b at = has_symbol (symbols_at l at) a && has_symbol (symbols_at l at) b

  pub record IsFound (distinct : List ℕ) (p : ℕ × ℕ) : Type 0 where
    pub one : has set p.0 ≡ true
    pub other : has set p.1 ≡ true
    pub less : nat_lt p.0 p.1 ≡ true
    pub stand : list_any (together p.0 p.1) distinct ≡ true

  abbrev pub found_from : List (ℕ × ℕ) → List ℕ → List (ℕ × ℕ)
  found_from base distinct = fold (λ ps at. pairs_all ps (chosen set (symbols_at l at))) base distinct

  pub in_found : (base : List (ℕ × ℕ)) (distinct : List ℕ) (p : ℕ × ℕ) → In p (found_from base distinct) → In p base ⊎ IsFound distinct p
  in_found base [] p i = inl i
  in_found base (d ∷ distinct) p i = elim (in_found (pairs_all base (chosen set (symbols_at l d))) distinct p i) [
    | inl k ↦ elim (in_all_pairs (chosen set (symbols_at l d)) base (chosen set (symbols_at l d)) p k) [
      | inl j ↦ inl j
      | inr b ↦ elim (in_chosen set [] (symbols_at l d) p.0 b.one) [
        | inl none ↦ absurd none
        | inr x ↦ elim (in_chosen set [] (symbols_at l d) p.1 b.other) [
          | inl none ↦ absurd none
          | inr y ↦ inr
              (record {
                one = x.0;
                other = y.0;
                less = b.less;
                stand =
                    or_left (together p.0 p.1 d) (list_any (together p.0 p.1) distinct)
                    (and_from (has_symbol (symbols_at l d) p.0) (has_symbol (symbols_at l d) p.1) x.1 y.1);
              })
        ]
      ]
    ]
    | inr f ↦ inr (record { one = f.one; other = f.other; less = f.less; stand = or_right (together p.0 p.1 d) (list_any (together p.0 p.1) distinct) f.stand })
  ]

  pub found_base : (base : List (ℕ × ℕ)) (distinct : List ℕ) (p : ℕ × ℕ) → In p base → In p (found_from base distinct)
  found_base base [] p i = i
  found_base base (d ∷ distinct) p i = found_base (pairs_all base (chosen set (symbols_at l d))) distinct p (all_base (chosen set (symbols_at l d)) base (chosen set (symbols_at l d)) p i)

  pub found_in : (base : List (ℕ × ℕ)) (distinct : List ℕ) (a b : ℕ) → has set a ≡ true → has set b ≡ true → nat_lt a b ≡ true
      → list_any (together a b) distinct ≡ true → In (joined a b) (found_from base distinct)
  found_in base [] a b ha hb less h = absurd cc
  found_in base (d ∷ distinct) a b ha hb less h = elim (or_cases (together a b d) (list_any (together a b) distinct) h) [
    | inl t ↦
        let both = and_parts (has_symbol (symbols_at l d) a) (has_symbol (symbols_at l d) b) t in
        found_base (pairs_all base (chosen set (symbols_at l d))) distinct (joined a b)
        (all_in (chosen set (symbols_at l d)) base (chosen set (symbols_at l d)) a b (chosen_in set [] (symbols_at l d) a ha both.0) (chosen_in set [] (symbols_at l d) b hb both.1) less)
    | inr k ↦ found_in (pairs_all base (chosen set (symbols_at l d))) distinct a b ha hb less k
  ]

-- ---- the pairs of numbers that rise

pub all_of_in : {X : Type 0} (P : X → Type 0) (xs : List X) → ((x : X) → In x xs → P x) → AllByRecursion P xs
all_of_in P [] f = tt
all_of_in P (x ∷ xs) f = (f x (inl refl), all_of_in P xs (λ y i. f y (inr i)))

module _ (g : ℕ → ℕ → Bool) where
  abbrev pub pairs_of : List ℕ → List (ℕ × ℕ)
  pairs_of [] = []
  pairs_of (a ∷ v) = map (joined a) (filter (g a) v) ++ pairs_of v

  cmp_less : (a b : ℕ) → nat_cmp a b ≡ Less → nat_lt a b ≡ true
  cmp_less a b h = elim (cases_Bool (ltb a b)) [
    | inl t ↦ t
    | inr t ↦ elim (cases_Bool (eqb a b)) [ inl e ↦ let bad : Equal ≡ Less = rw (t, e) at h in absurd cc | inr e ↦ absurd (other t e) ]
  ]
    where
      other : ltb a b ≡ false → eqb a b ≡ false → ⊥
      other t e = let bad : Greater ≡ Less = rw (t, e) at h in absurd cc

  less_cmp : (a b : ℕ) → nat_lt a b ≡ true → nat_cmp a b ≡ Less
  less_cmp a b h = rw h refl

  pub in_pairs : (v : List ℕ) → Rises v → (p : ℕ × ℕ) → In p (pairs_of v) → (In p.0 v × In p.1 v × (nat_lt p.0 p.1 ≡ true)) × (g p.0 p.1 ≡ true)
  in_pairs [] r p i = absurd i
  in_pairs (a ∷ v) r p i = elim (in_append p (map (joined a) (filter (g a) v)) (pairs_of v) i) [
    | inl k ↦
        let m = in_map (joined a) p (filter (g a) v) k in
        let f = in_filter (g a) m.0 v m.1 in
        let first : p.0 ≡ a = ap (λ (q : ℕ × ℕ). q.0) (sym m.2) in
        let other : p.1 ≡ m.0 = ap (λ (q : ℕ × ℕ). q.1) (sym m.2) in
        let less = cmp_less a m.0 (in_all (λ y. nat_cmp a y ≡ Less) m.0 v (sorted_head nat_cmp a v r) f.0) in
        ((inl first, inr (subst (λ (y : ℕ). In y v) (sym other) f.0), ap (λ (q : ℕ × ℕ). nat_lt q.0 q.1) (sym m.2) ∙ less), ap (λ (q : ℕ × ℕ). g q.0 q.1) (sym m.2) ∙ f.1)
    | inr k ↦ let later = in_pairs v (sorted_tail nat_cmp a v r) p k in ((inr later.0.0, inr later.0.1, later.0.2), later.1)
  ]

  pub pairs_in : (v : List ℕ) → Rises v → (a b : ℕ) → In a v → In b v → nat_lt a b ≡ true → g a b ≡ true → In (joined a b) (pairs_of v)
  pairs_in [] r a b i j less h = absurd i
  pairs_in (n ∷ v) r a b i j less h = elim i [
    | inl e ↦ elim j [
      | inl f ↦ let same : a ≡ b = e ∙ sym f in let bad : ⊥ = grind (arith, nat_tests, same) in absurd bad
      | inr k ↦ in_left (joined a b) (map (joined n) (filter (g n) v)) (pairs_of v)
          (subst (λ (m : ℕ). In (joined a b) (map (joined m) (filter (g m) v))) e (map_in (joined a) b (filter (g a) v) (filter_in (g a) b v k h)))
    ]
    | inr k ↦ elim j [
      | inl f ↦
          let low = cmp_less n a (in_all (λ y. nat_cmp n y ≡ Less) a v (sorted_head nat_cmp n v r) k) in
          let bad : ⊥ = grind (arith, nat_tests, f) in absurd bad
      | inr m ↦ in_right (joined a b) (map (joined n) (filter (g n) v)) (pairs_of v) (pairs_in v (sorted_tail nat_cmp n v r) a b k m less h)
    ]
  ]

  row-rises : (a : ℕ) (v : List ℕ) → Rises v → PairsRise (map (joined a) v)
  row-rises a [] r = sorted_none pair_cmp
  row-rises a (b ∷ v) r = sorted_cons pair_cmp (joined a b) (map (joined a) v) (heads v (sorted_head nat_cmp b v r)) (row-rises a v (sorted_tail nat_cmp b v r))
    where
      heads : (w : List ℕ) → AllByRecursion (λ y. nat_cmp b y ≡ Less) w → AllByRecursion (λ q. pair_cmp (joined a b) q ≡ Less) (map (joined a) w)
      heads [] h = tt
      heads (y ∷ w) h = (ap (λ o. ordering_then o (nat_cmp b y)) (tied_itself nat_cmp_total a) ∙ h.0, heads w h.1)

  pub pairs_rise : (v : List ℕ) → Rises v → PairsRise (pairs_of v)
  pairs_rise [] r = sorted_none pair_cmp
  pairs_rise (a ∷ v) r =
      let rest = sorted_tail nat_cmp a v r in
      sorted_append pair_cmp (map (joined a) (filter (g a) v)) (pairs_of v) (row-rises a (filter (g a) v) (IsStrictlySortedBy-filter nat_cmp (g a) v rest)) (pairs_rise v rest)
      (all_of_in (λ p. AllByRecursion (λ q. pair_cmp p q ≡ Less) (pairs_of v)) (map (joined a) (filter (g a) v)) (λ p i.
      let m = in_map (joined a) p (filter (g a) v) i in
      all_of_in (λ q. pair_cmp p q ≡ Less) (pairs_of v) (λ q k.
      let later = in_pairs v rest q k in
      let low = in_all (λ y. nat_cmp a y ≡ Less) q.0 v (sorted_head nat_cmp a v r) later.0.0 in
      ap (λ (o : ℕ × ℕ). pair_cmp o q) (sym m.2) ∙ ap (λ o. ordering_then o (nat_cmp m.0 q.1)) low)))

-- ---- in a database

module _ (ss : List Statement) where
  abbrev names : List Name
  names = symbols ss

  abbrev Known : Name → Type 0
  Known n = contains names n ≡ true

  abbrev numbers : Name × Name → ℕ × ℕ
  numbers p = joined (number names p.0) (number names p.1)

  -- by name and by number
  module _ (ds : List Statement) (g : ℕ → ℕ → Bool)
      (law : (x y : Name) → Known x → Known y
      → list_any (λ d. contains (symbols_in d) x && contains (symbols_in d) y) ds ≡ g (number names x) (number names y)) where
    row-is : (x : Name) (ys : List Name) → Known x → AllByRecursion Known ys
        → map numbers (map (λ y. (x, y)) (filter (λ y. list_any (λ d. contains (symbols_in d) x && contains (symbols_in d) y) ds) ys))
        ≡ map (joined (number names x)) (filter (g (number names x)) (map (number names) ys))
    row-is x [] kx k = refl
    row-is x (y ∷ ys) kx k =
        let later = row-is x ys kx k.1 in
        let same = law x y kx k.0 in
        elim (cases_Bool (g (number names x) (number names y))) [
          | inl h ↦ rw (same ∙ h, h) (ap (λ r. joined (number names x) (number names y) ∷ r) later)
          | inr h ↦ rw (same ∙ h, h) later
        ]

    pub pairs-are : (xs : List Name) → AllByRecursion Known xs → map numbers (model.pairs_with ds xs) ≡ pairs_of g (map (number names) xs)
    pairs-are [] k = refl
    pairs-are (x ∷ xs) k =
        map-append numbers (map (λ y. (x, y)) (filter (λ y. list_any (λ d. contains (symbols_in d) x && contains (symbols_in d) y) ds) xs)) (model.pairs_with ds xs)
        ∙ ap (λ r. r ++ map numbers (model.pairs_with ds xs)) (row-is x xs k.0 k.1)
        ∙ ap (λ r. map (joined (number names x)) (filter (g (number names x)) (map (number names) xs)) ++ r) (pairs-are xs k.1)

  module _ (l : Listed) (of : AreOf l ss) where
    together-by : (x y : Name) → Known x → Known y → (ns : List Numbered) → AllByRecursion (IsGood ss) ns
        → list_any (λ d. contains (symbols_in d) x && contains (symbols_in d) y) (with_keyword (codes "$d") (statements_of ns))
        ≡ list_any (together l [] (number names x) (number names y))
        (map (λ (i : Numbered). i.at) (filter (λ (i : Numbered). is_distinct (kind_in i.statement)) ns))
    together-by x y kx ky [] a = refl
    together-by x y kx ky (i ∷ ns) a =
        let later = together-by x y kx ky ns a.1 in
        let st = i.statement in
        let test : Statement → Bool = λ d. contains (symbols_in d) x && contains (symbols_in d) y in
        let old = list_any (together l [] (number names x) (number names y)) (map (λ (j : Numbered). j.at) (filter (λ (j : Numbered). is_distinct (kind_in j.statement)) ns)) in
        let same : test st ≡ together l [] (number names x) (number names y) i.at =
        ap (λ b. b && contains (symbols_in st) y) (contains-symbols names x (symbols_in st) kx)
        ∙ ap (λ b. has_symbol (model.formula_of names st) (number names x) && b) (contains-symbols names y (symbols_in st) ky)
        ∙ ap (λ (f : List Sym). has_symbol f (number names x) && has_symbol f (number names y)) (sym (symbols-is ss l of i.at st a.0.placed.there)) in
        elim (cases_Bool (has_keyword (codes "$d") st)) as
        (λ w. list_any test (with_keyword (codes "$d") (st ∷ statements_of ns))
        ≡ list_any (together l [] (number names x) (number names y))
        (map (λ (j : Numbered). j.at) (filter (λ (j : Numbered). is_distinct (kind_in j.statement)) (i ∷ ns)))) [
          | inl k ↦ rw (sym (kind-is_distinct st) ∙ k, k)
              (ap (λ b. b || list_any test (with_keyword (codes "$d") (statements_of ns))) same
              ∙ ap (λ b. together l [] (number names x) (number names y) i.at || b) later)
          | inr k ↦ rw (sym (kind-is_distinct st) ∙ k, k) later
        ]

    module _ (e : List Statement) (good : AllByRecursion (IsGood ss) (here e)) (s : Scope) (is_d : s.distinct ≡ (state names (here e)).distinct) where
      abbrev ns : List Numbered
      ns = here e

      together-law : (x y : Name) → Known x → Known y
          → list_any (λ d. contains (symbols_in d) x && contains (symbols_in d) y) (with_keyword (codes "$d") (active e))
          ≡ list_any (together l [] (number names x) (number names y)) s.distinct
      together-law x y kx ky =
          let at : Numbered → ℕ = λ i. i.at in
          let q : Numbered → Bool = λ i. is_distinct (kind_in i.statement) in
          let p = together l [] (number names x) (number names y) in
          ap (λ a. list_any (λ d. contains (symbols_in d) x && contains (symbols_in d) y) (with_keyword (codes "$d") a)) (sym (on-is (path e) e))
          ∙ together-by x y kx ky ns good
          ∙ sym
          (ap (λ ds. list_any p ds) (is_d ∙ distinct-are ss ns) ∙ ap (λ xs. list_any p (map at xs)) (filter-reverse q ns)
          ∙ ap (λ xs. list_any p xs) (map-reverse at (filter q ns)) ∙ any-turned p (map at (filter q ns)))

      -- the pairs of the variables that pass a test, which are those of the set
      pub pairs-law : (q : Name → Bool) (set : List ℕ) → ((j : ℕ) → has set j ≡ true → j < length names) → ((n : Name) → Known n → q n ≡ has set (number names n))
          → (pairs : List Pair) → ArePairs l s.distinct set pairs → pairs ≡ model.active_pairs names (filter q names) e
      pairs-law q set within law pairs a =
          let fresh = names-fresh [] _ in
          let g : ℕ → ℕ → Bool = λ i j. list_any (together l [] i j) s.distinct in
          let v = numbers_passing names q names in
          let rise = passing-rise names q fresh in
          let o = a.1 in
          let found = found_pairs l s.distinct set in
          let same : a.0 ≡ pairs_of g v = unique pair_cmp pair_total a.0 (pairs_of g v) o.rises (pairs_rise g v rise)
          (λ p i. elim (in_found l set [] s.distinct p (contains_in p found (o.adds_none p (in_contains p a.0 i)))) [
            | inl none ↦ absurd none
            | inr f ↦ pairs_in g v rise p.0 p.1 (to-passing names q set fresh within law p.0 f.one) (to-passing names q set fresh within law p.1 f.other) f.less f.stand
          ])
          (λ p i.
          let r = in_pairs g v rise p i in
          contains_in p a.0 (o.keeps p (in_contains p found (found_in l set [] s.distinct p.0 p.1 (from-passing names q set law p.0 r.0.0) (from-passing names q set law p.1 r.0.1) r.0.2 r.1)))) in
          let known : AllByRecursion Known (filter q names) = all_of_in Known (filter q names) (λ n i. any_there (bytes_eq n) n names (in_filter q n names i).0 (name-self n)) in
          let by_name : map numbers (model.pairs_with (with_keyword (codes "$d") (active e)) (filter q names)) ≡ pairs_of g v =
          pairs-are (with_keyword (codes "$d") (active e)) g together-law (filter q names) known in
          a.2 ∙ ap (λ ps. map pair_of ps) (same ∙ sym by_name) ∙ twice (model.pairs_with (with_keyword (codes "$d") (active e)) (filter q names))
        where
          twice : (ps : List (Name × Name)) → map pair_of (map numbers ps) ≡ map (model.pair_of names) ps
          twice [] = refl
          twice (p ∷ ps) = ap (λ r. model.pair_of names p ∷ r) (twice ps)
