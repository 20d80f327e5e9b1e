-- Fewer numbers are used than a work variable may have, so some number above the last one is not used.
use Rattle.std.specs.Prelude.{◌≡◌, ◌+◌, ◌-◌, ◌*◌, ◌^◌, ◌<◌, ◌≤◌, ◌==◌, ◌&&◌, ℕ, zero, suc, Bool, true, false, cond, nat_eq, nat_lt, List, [], ◌∷◌}
use Rattle.std.specs.Prelude.{◌++◌, length, map, fold, drop, slice_index_or, decimal, position, option_map, is_some, None, refl}
use Rattle.std.specs.List.{list_any, position_or_len, AllByRecursion, IsDistinct}
use Rattle.std.specs.Str.{bytes_eq, all_ascii_digits}
use Rattle.std.proofs.Common.{sym, ap, subst, ◌∙◌, arith, inl, inr, eq-eqb}
use Rattle.std.proofs.Math.Seq.{drop-append_seam}
use Rattle.std.proofs.lemmas.Bool.{cases_Bool, cases_lt, both_ways, or_cases, or_left, or_right, and_parts, eqb-true}
use Rattle.std.proofs.lemmas.Bool.Decides.{nat_tests}
use Rattle.std.proofs.lemmas.Fmt.{digits_value-decimal}
use Rattle.std.proofs.lemmas.List.{length-map, length-append}
use Rattle.std.proofs.lemmas.List.Folds.{list_any-append}
use Rattle.std.proofs.lemmas.Slice.Eq.{bytes_eq-Decides}
use Rattle.std.proofs.lemmas.Str.Parse.{IsNumeralModel, FoldsDigits, numerals_by_fold, tells_all_ascii_digits}
use Rattle.mm_model.specs.Names.{Name, sym as symbol, contains}
use Rattle.solve_model.specs.Formulas.{prefix_of, spelling, number_of}
use Rattle.writing_laws.proofs.Numbers.{stands_in, all_stand, searched_to}
use Rattle.leaf_names.specs.Leaves.{FreshLeaf, fresh_leaf}
use Rattle.leaf_names.specs.Tables.{NamedLeaf, same_leaf, is_read, is_declared, is_unused, is_given, is_taken}
use Rattle.leaf_names.specs.Cursors.{last_number, AreFew, IsKept, HasRoom}

-- ---- the number that digits write

value_from : ℕ → List ℕ → ℕ
value_from n ds = fold (λ m d. 10 * m + (d - 48)) n ds

folds : FoldsDigits value_from
unfolding value_from
folds = record { empty = λ n. refl; more = λ n c cs h. ap (λ m. fold (λ m d. 10 * m + (d - 48)) (m + (c - 48)) cs) (omega arith) }

own : IsNumeralModel (λ ds. all_ascii_digits ds ≡ true) (value_from 0)
own = numerals_by_fold _ tells_all_ascii_digits value_from folds

value_is : (n : ℕ) → n < 2 ^ 64 → number_of (decimal n) ≡ n
unfolding value_from
value_is n h = digits_value-decimal own n h

-- ---- the numbers of symbols

module _ (p : Name) where
  abbrev number_in : Name → ℕ
  number_in name = number_of (drop (length p) name)

  read_back : (n : ℕ) (names : List Name) → n < 2 ^ 64 → contains names (p ++ decimal n) ≡ true → stands_in (map number_in names) n ≡ true
  read_back n [] small e = absurd (cc)
  read_back n (x ∷ xs) small e = elim (or_cases (bytes_eq (p ++ decimal n) x) (contains xs (p ++ decimal n)) e) [
    | inl h ↦
        let same : p ++ decimal n ≡ x = (bytes_eq-Decides (p ++ decimal n) x).0 h in
        let is : n ≡ number_in x = sym (value_is n small) ∙ ap number_of (sym (drop-append_seam p (decimal n))) ∙ ap number_in same in
        or_left (n == number_in x) (stands_in (map number_in xs) n) (eq-eqb n (number_in x) is)
    | inr h ↦ or_right (n == number_in x) (stands_in (map number_in xs) n) (read_back n xs small h)
  ]

not_there : (p : Name → Bool) (names : List Name) → list_any p names ≡ false → position p names ≡ None
not_there p names e = rw (end p names e, same (length names)) refl
  where
    end : (p : Name → Bool) (names : List Name) → list_any p names ≡ false → position_or_len p names ≡ length names
    end p [] e = refl
    end p (n ∷ ns) e = elim (cases_Bool (p n)) [
      | inl h ↦ let bad : true ≡ false = rw h at e in absurd (cc)
      | inr h ↦ let rest = end p ns (rw h at e) in let more : 1 + position_or_len p ns ≡ suc (length ns) = omega (arith, rest) in rw h more
    ]

    same : (n : ℕ) → nat_lt n n ≡ false
    same n = grind (arith, nat_tests)

declared_stands : (symbols : List Name) (c n : ℕ) → n < 2 ^ 64 → is_declared symbols c n ≡ true → stands_in (map (number_in (prefix_of (slice_index_or symbols c []))) symbols) n ≡ true
declared_stands symbols c n small e = elim (cases_Bool (contains symbols (spelling (slice_index_or symbols c []) n))) [
  | inl h ↦ read_back (prefix_of (slice_index_or symbols c [])) n symbols small h
  | inr h ↦
      let none = ap (λ o. is_some (option_map symbol o)) (not_there (bytes_eq (spelling (slice_index_or symbols c []) n)) symbols h) in
      absurd (both_ways (is_declared symbols c n) none e)
]

-- ---- the numbers of work variables that were read

read_stands : (read : List FreshLeaf) (c n : ℕ) → is_read read c n ≡ true → stands_in (map (λ (x : FreshLeaf). x.1) read) n ≡ true
read_stands [] c n e = absurd (cc)
read_stands (x ∷ xs) c n e = elim (or_cases (same_leaf (fresh_leaf c n) x) (is_read xs c n) e) [
  | inl h ↦ or_left (n == x.1) (stands_in (map (λ (y : FreshLeaf). y.1) xs) n) (and_parts (nat_eq c x.0) (nat_eq n x.1) h).1
  | inr h ↦ or_right (n == x.1) (stands_in (map (λ (y : FreshLeaf). y.1) xs) n) (read_stands xs c n h)
]

-- ---- lists of small numbers that differ

abbrev Differ : List ℕ → Type 0
Differ [] = Unit {0}
Differ (x ∷ xs) = (stands_in xs x ≡ false) × Differ xs

abbrev without : ℕ → List ℕ → List ℕ
without m [] = []
without m (x ∷ xs) = cond (m == x) (without m xs) (x ∷ without m xs)

without_absent : (m : ℕ) (xs : List ℕ) → stands_in xs m ≡ false → length xs ≤ length (without m xs)
without_absent m [] e = omega arith
without_absent m (x ∷ xs) e = elim (cases_Bool (m == x)) [
  | inl h ↦ let bad : true ≡ false = rw h at e in absurd (cc)
  | inr h ↦ let later : stands_in xs m ≡ false = rw h at e in let rest = without_absent m xs later in rw h (omega (arith, rest))
]

without_long : (m : ℕ) (xs : List ℕ) → Differ xs → length xs ≤ suc (length (without m xs))
without_long m [] d = omega arith
without_long m (x ∷ xs) d = elim (cases_Bool (m == x)) [
  | inl h ↦ let rest = without_absent m xs (subst (λ k. stands_in xs k ≡ false) (sym (eqb-true m x h)) d.0) in rw h (omega (arith, rest))
  | inr h ↦ let rest = without_long m xs d.1 in rw h (omega (arith, rest))
]

without_fewer : (m n : ℕ) (xs : List ℕ) → stands_in xs n ≡ false → stands_in (without m xs) n ≡ false
without_fewer m n [] e = refl
without_fewer m n (x ∷ xs) e = elim (cases_Bool (n == x)) [
  | inl g ↦ let bad : true ≡ false = rw g at e in absurd (cc)
  | inr g ↦
      let later : stands_in xs n ≡ false = rw g at e in
      let rest = without_fewer m n xs later in
      elim (cases_Bool (m == x)) [ inl h ↦ rw h rest | inr h ↦ rw (h, g) rest ]
]

without_differ : (m : ℕ) (xs : List ℕ) → Differ xs → Differ (without m xs)
without_differ m [] d = tt
without_differ m (x ∷ xs) d = elim (cases_Bool (m == x)) [
  | inl h ↦ rw h (without_differ m xs d.1)
  | inr h ↦ rw h (without_fewer m x xs d.0, without_differ m xs d.1)
]

abbrev Below : ℕ → List ℕ → Type 0
Below m xs = AllByRecursion (λ x. x < m) xs

without_below : (m : ℕ) (xs : List ℕ) → Below (suc m) xs → Below m (without m xs)
without_below m [] d = tt
without_below m (x ∷ xs) d = elim (cases_Bool (m == x)) [
  | inl h ↦ rw h (without_below m xs d.1)
  | inr h ↦ let low : x < m = less m x d.0 h in rw h (low, without_below m xs d.1)
]
  where
    less : (m x : ℕ) → x < suc m → (m == x) ≡ false → x < m
    less m x l e = grind (arith, nat_tests, l, e)

few_below : (m : ℕ) (xs : List ℕ) → Differ xs → Below m xs → length xs ≤ m
few_below zero [] d b = omega arith
few_below zero (x ∷ xs) d b = absurd (omega (arith, b.0))
few_below (suc m) xs d b =
    let rest = few_below m (without m xs) (without_differ m xs d) (without_below m xs b) in
    let long = without_long m xs d in
    omega (arith, rest, long)

-- ---- the numbers that were given for a typecode

module _ (c : ℕ) where
  abbrev numbers_of : (NamedLeaf → ℕ) → List NamedLeaf → List ℕ
  numbers_of f [] = []
  numbers_of f (g ∷ gs) = cond (nat_eq c g.0.0) (f g ∷ numbers_of f gs) (numbers_of f gs)

  same_long : (f h : NamedLeaf → ℕ) (gs : List NamedLeaf) → length (numbers_of f gs) ≡ length (numbers_of h gs)
  same_long f h [] = refl
  same_long f h (g ∷ gs) = elim (cases_Bool (nat_eq c g.0.0)) [
    | inl e ↦ rw e (ap suc (same_long f h gs))
    | inr e ↦ rw e (same_long f h gs)
  ]

  abbrev own_number : NamedLeaf → ℕ
  own_number g = g.0.1

  abbrev given_number : NamedLeaf → ℕ
  given_number g = g.1

  taken_stands : (gs : List NamedLeaf) (n : ℕ) → is_taken gs c n ≡ true → stands_in (numbers_of given_number gs) n ≡ true
  taken_stands [] n e = absurd (cc)
  taken_stands (g ∷ gs) n e = elim (or_cases (is_given c n g) (is_taken gs c n) e) [
    | inl h ↦ let both = and_parts (nat_eq c g.0.0) (nat_eq n g.1) h in rw both.0 (or_left (n == g.1) (stands_in (numbers_of given_number gs) n) both.1)
    | inr h ↦ elim (cases_Bool (nat_eq c g.0.0)) [
      | inl e ↦ rw e (or_right (n == g.1) (stands_in (numbers_of given_number gs) n) (taken_stands gs n h))
      | inr e ↦ rw e (taken_stands gs n h)
    ]
  ]

  apart : (x : FreshLeaf) (gs : List NamedLeaf) → c ≡ x.0 → AllByRecursion (λ y. same_leaf x y ≡ false) (map (λ (g : NamedLeaf). g.0) gs) → stands_in (numbers_of own_number gs) x.1 ≡ false
  apart x [] is h = refl
  apart x (g ∷ gs) is h = elim (cases_Bool (nat_eq c g.0.0)) [
    | inl e ↦
        let first : nat_eq x.0 g.0.0 ≡ true = subst (λ d. nat_eq d g.0.0 ≡ true) is e in
        let differ : (x.1 == g.0.1) ≡ false = second (nat_eq x.0 g.0.0) (nat_eq x.1 g.0.1) h.0 first in
        rw (e, differ) (apart x gs is h.1)
    | inr e ↦ rw e (apart x gs is h.1)
  ]
    where
      second : (a b : Bool) → (a && b) ≡ false → a ≡ true → b ≡ false
      second true b e f = e
      second false b e f = absurd (cc)

  leaves_differ : (gs : List NamedLeaf) → IsDistinct same_leaf (map (λ (g : NamedLeaf). g.0) gs) → Differ (numbers_of own_number gs)
  unfolding IsDistinct
  leaves_differ [] h = tt
  leaves_differ (g ∷ gs) h = elim (cases_Bool (nat_eq c g.0.0)) [
    | inl e ↦ rw e (apart g.0 gs (eqb-true c g.0.0 e) h.0, leaves_differ gs h.1)
    | inr e ↦ rw e (leaves_differ gs h.1)
  ]

  leaves_below : (m : ℕ) (gs : List NamedLeaf) → AllByRecursion (λ (g : NamedLeaf). g.0.1 < m) gs → Below m (numbers_of own_number gs)
  leaves_below m [] h = tt
  leaves_below m (g ∷ gs) h = elim (cases_Bool (nat_eq c g.0.0)) [
    | inl e ↦ rw e (h.0, leaves_below m gs h.1)
    | inr e ↦ rw e (leaves_below m gs h.1)
  ]

  few_given : (gs : List NamedLeaf) → IsDistinct same_leaf (map (λ (g : NamedLeaf). g.0) gs) → AllByRecursion (λ (g : NamedLeaf). g.0.1 < 2 ^ 31) gs → length (numbers_of given_number gs) ≤ 2 ^ 31
  few_given gs d b =
      let long = few_below (2 ^ 31) (numbers_of own_number gs) (leaves_differ gs d) (leaves_below (2 ^ 31) gs b) in
      let same = same_long given_number own_number gs in
      omega (arith, long, same)

-- ---- some number is not used

stands_left : (xs ys : List ℕ) (n : ℕ) → stands_in xs n ≡ true → stands_in (xs ++ ys) n ≡ true
stands_left xs ys n e = list_any-append (λ k. n == k) xs ys ∙ or_left (stands_in xs n) (stands_in ys n) e

stands_right : (xs ys : List ℕ) (n : ℕ) → stands_in ys n ≡ true → stands_in (xs ++ ys) n ≡ true
stands_right xs ys n e = list_any-append (λ k. n == k) xs ys ∙ or_right (stands_in xs n) (stands_in ys n) e

must_be : (a : Bool) → (a ≡ true → ⊥) → a ≡ false
must_be true h = absurd (h refl)
must_be false h = refl

module _ (symbols : List Name) (read : List FreshLeaf) (given : List NamedLeaf) (last : List ℕ) (few : AreFew symbols read) (kept : IsKept symbols read given last) (c : ℕ) where
  R : List ℕ
  R = map (λ (x : FreshLeaf). x.1) read

  G : List ℕ
  G = numbers_of c (given_number c) given

  S : List ℕ
  S = map (number_in (prefix_of (slice_index_or symbols c []))) symbols

  abbrev used : List ℕ
  used = R ++ (G ++ S)

  used_long : length used < 2 ^ 32 - 1
  unfolding R G S
  used_long =
      let a = length-append R (G ++ S) in
      let b = length-append G S in
      let r = length-map read (λ (x : FreshLeaf). x.1) in
      let s = length-map symbols (number_in (prefix_of (slice_index_or symbols c []))) in
      let g = few_given c given kept.differ kept.small in
      let sf = few.symbols_few in
      let rf = few.read_few in
      omega (arith, a, b, r, s, g, sf, rf)

  module _ (n : ℕ) (small : n < 2 ^ 64) (free : stands_in used n ≡ false) where
    not_read : is_read read c n ≡ false
    unfolding R
    not_read = must_be (is_read read c n) (λ e. both_ways (stands_in used n) free (stands_left R (G ++ S) n (read_stands read c n e)))

    not_taken : is_taken given c n ≡ false
    unfolding G
    not_taken = must_be (is_taken given c n) (λ e. both_ways (stands_in used n) free (stands_right R (G ++ S) n (stands_left G S n (taken_stands c given n e))))

    not_declared : is_declared symbols c n ≡ false
    unfolding S
    not_declared = must_be (is_declared symbols c n) (λ e. both_ways (stands_in used n) free (stands_right R (G ++ S) n (stands_right G S n (declared_stands symbols c n small e))))

    unused : is_unused symbols read c n ≡ true
    unused = rw (not_read, not_declared) refl

    above_last : 1 ≤ n → last_number last c < n
    above_last one = elim (cases_lt (last_number last c) n) [
      | inl l ↦ l
      | inr l ↦ absurd (both_ways (is_taken given c n) not_taken (kept.covers c n one l unused))
    ]

  pub has_room : HasRoom symbols read last c
  has_room = elim (searched_to (stands_in used) (2 ^ 32 - 1)) [
    | inl f ↦
        let low = f.2 in
        let small : f.0 < 2 ^ 64 = omega (arith, low) in
        record { number = f.0; above = above_last f.0 small f.3 f.1; in_range = omega (arith, low); unused = unused f.0 small f.3 }
    | inr all ↦ let most = all_stand (2 ^ 32 - 1) used all in let long = used_long in absurd (omega (arith, most, long))
  ]
