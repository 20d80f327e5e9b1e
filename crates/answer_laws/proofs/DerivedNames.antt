-- The names of derived steps are labels, are not used before and differ.
use Rattle.std.specs.Prelude.{◌≡◌, ◌<◌, ◌≤◌, ◌+◌, ◌^◌, ◌++◌, ◌||◌, ◌==◌, not, ℕ, zero, suc, Bool, true, false, List, [], ◌∷◌, length, map, find}
use Rattle.std.specs.Prelude.{unwrap_or, decimal, Option, Some, codes, refl}
use Rattle.std.specs.List.{AllByRecursion, list_all, range_with_len}
use Rattle.std.specs.Str.{bytes_eq}
use Rattle.std.proofs.Common.{sym, ap, subst, ◌∙◌, arith, inl, inr, ◌⊎◌, append_assoc, cond, ne_eqb}
use Rattle.std.proofs.lemmas.Bool.{cases_Bool, and_from, or_cases, or_parts, or_left, or_right, both_ways}
use Rattle.std.proofs.lemmas.Fmt.{decimal_injective}
use Rattle.std.proofs.lemmas.Slice.Eq.{bytes_eq-Decides}
use Rattle.mm_model.specs.Labels.{is_label, is_label_byte}
use Rattle.mm_model.specs.Names.{Name, contains, has_twice}
use Rattle.sheet_text.specs.Forms.{marked_name}
use Rattle.written_model.specs.Filled.{derived_name, derived_names}
use Rattle.answer_laws.proofs.WellWritten.{digit_label, decimal_passes}

-- ---- names in lists

pub same_name : (a b : Name) → bytes_eq a b ≡ true → a ≡ b
same_name a b e = (bytes_eq-Decides a b).0 e

name_itself : (a : Name) → bytes_eq a a ≡ true
name_itself a = (bytes_eq-Decides a a).1 refl

other_way : (a b : Name) → bytes_eq a b ≡ false → bytes_eq b a ≡ false
other_way a b e = elim (cases_Bool (bytes_eq b a)) [
  | inl d ↦ absurd (both_ways (bytes_eq a b) e (subst (λ x. bytes_eq x b ≡ true) (same_name b a d) (name_itself b)))
  | inr d ↦ d
]

pub contains-append : (xs ys : List Name) (n : Name) → contains (xs ++ ys) n ≡ (contains xs n || contains ys n)
contains-append [] ys n = refl
contains-append (x ∷ xs) ys n = elim (cases_Bool (bytes_eq n x)) [
  | inl e ↦ rw e refl
  | inr e ↦ rw e (contains-append xs ys n)
]

either_list : (a b : Bool) → (a || b) ≡ true → (a ≡ true) ⊎ (b ≡ true)
either_list a b h = or_cases a b h

pub contained_in : (xs ys : List Name) (n : Name) → contains (xs ++ ys) n ≡ true → (contains xs n ≡ true) ⊎ (contains ys n ≡ true)
contained_in xs ys n h = or_cases (contains xs n) (contains ys n) (sym (contains-append xs ys n) ∙ h)

pub not_contained_in : (xs ys : List Name) (n : Name) → contains xs n ≡ false → contains ys n ≡ false → contains (xs ++ ys) n ≡ false
not_contained_in xs ys n h k = contains-append xs ys n ∙ rw (h, k) refl

-- one name more, that the list does not have
pub twice_push : (xs : List Name) (n : Name) → has_twice xs ≡ false → contains xs n ≡ false → has_twice (xs ++ n ∷ []) ≡ false
twice_push [] n h k = refl
twice_push (x ∷ xs) n h k =
    let parts = or_parts (contains xs x) (has_twice xs) h in
    let differ = or_parts (bytes_eq n x) (contains xs n) k in
    let first : contains (xs ++ n ∷ []) x ≡ false = not_contained_in xs (n ∷ []) x parts.0 (rw (other_way n x differ.0) refl) in
    rw (first, twice_push xs n parts.1 differ.1) refl

-- ---- a list has no more different names than another that has them all

pub record Without (used : List Name) (c : Name) : Type 0 where
  pub rest : List Name
  pub count : length used ≡ suc (length rest)
  pub others : (x : Name) → bytes_eq x c ≡ false → contains used x ≡ true → contains rest x ≡ true

without : (used : List Name) (c : Name) → contains used c ≡ true → Without used c
without [] c h = absurd (cc)
without (u ∷ us) c h = elim (cases_Bool (bytes_eq c u)) [
  | inl e ↦ record {
    rest = us;
    count = refl;
    others = λ x d k. elim (or_cases (bytes_eq x u) (contains us x) k) [
      | inl s ↦ absurd (both_ways (bytes_eq x c) d (subst (λ y. bytes_eq x y ≡ true) (sym (same_name c u e)) s))
      | inr l ↦ l
    ];
  }
  | inr e ↦
      let r = without us c (rw e at h) in
      record {
        rest = u ∷ r.rest;
        count = ap suc r.count;
        others = λ x d k. elim (or_cases (bytes_eq x u) (contains us x) k) [
          | inl s ↦ or_left (bytes_eq x u) (contains r.rest x) s
          | inr l ↦ or_right (bytes_eq x u) (contains r.rest x) (r.others x d l)
        ];
      }
]

abbrev Differ : List Name → Type 0
Differ [] = Unit {0}
Differ (c ∷ cs) = AllByRecursion (λ x. bytes_eq x c ≡ false) cs × Differ cs

all_rest : (rest used : List Name) (c : Name) → ((x : Name) → bytes_eq x c ≡ false → contains used x ≡ true → contains rest x ≡ true) → (cs : List Name)
    → AllByRecursion (λ x. bytes_eq x c ≡ false) cs → AllByRecursion (λ x. contains used x ≡ true) cs → AllByRecursion (λ x. contains rest x ≡ true) cs
all_rest rest used c f [] d h = tt
all_rest rest used c f (x ∷ cs) d h = (f x d.0 h.0, all_rest rest used c f cs d.1 h.1)

no_more : (cs used : List Name) → Differ cs → AllByRecursion (λ x. contains used x ≡ true) cs → length cs ≤ length used
no_more [] used d h = omega arith
no_more (c ∷ cs) used d h =
    let r = without used c h.0 in
    let less = no_more cs r.rest d.1 (all_rest r.rest used c r.others cs d.0 h.1) in
    let count = r.count in
    omega (arith, less, count)

-- ---- numbered names

abbrev numbered : ℕ → Name
numbered n = codes "d" ++ decimal n

numbers_differ : (n m : ℕ) → n < 2 ^ 64 → m < 2 ^ 64 → (n ≡ m → ⊥) → bytes_eq (numbered n) (numbered m) ≡ false
numbers_differ n m h k d = elim (cases_Bool (bytes_eq (numbered n) (numbered m))) [
  | inl e ↦ let same : 100 ∷ decimal n ≡ 100 ∷ decimal m = same_name (numbered n) (numbered m) e in absurd (d (decimal_injective n m h k (cc)))
  | inr e ↦ e
]

later_differ : (a b n : ℕ) → a < b → b + n ≤ 2 ^ 64 → AllByRecursion (λ x. bytes_eq x (numbered a) ≡ false) (map numbered (range_with_len b n))
later_differ a b zero l h = tt
later_differ a b (suc n) l h = (numbers_differ b a (small b n h) (smaller a b n l h) (λ e. omega (arith, e, l)), later_differ a (b + 1) n (next a b l) (more b n h))
  where
    small : (x y : ℕ) → x + suc y ≤ 2 ^ 64 → x < 2 ^ 64
    small x y k = omega (arith, k)

    smaller : (z x y : ℕ) → z < x → x + suc y ≤ 2 ^ 64 → z < 2 ^ 64
    smaller z x y k m = omega (arith, k, m)

    next : (x y : ℕ) → x < y → x < y + 1
    next x y k = omega (arith, k)

    more : (x y : ℕ) → x + suc y ≤ 2 ^ 64 → x + 1 + y ≤ 2 ^ 64
    more x y k = omega (arith, k)

range_differs : (a n : ℕ) → a + n ≤ 2 ^ 64 → Differ (map numbered (range_with_len a n))
range_differs a zero h = tt
range_differs a (suc n) h = (later_differ a (a + 1) n (next a) (more a n h), range_differs (a + 1) n (more a n h))
  where
    next : (x : ℕ) → x < x + 1
    next x = omega arith

    more : (x y : ℕ) → x + suc y ≤ 2 ^ 64 → x + 1 + y ≤ 2 ^ 64
    more x y k = omega (arith, k)

range_length : (a n : ℕ) → length (map numbered (range_with_len a n)) ≡ n
range_length a zero = refl
range_length a (suc n) = ap suc (range_length (a + 1) n)

-- ---- a derived name

pub record IsNewName (used : List Name) (n : Name) : Type 0 where
  pub label : is_label n ≡ true
  pub unmarked : (marked_name n).0 ≡ false
  pub is_new : contains used n ≡ false

not_true : (b : Bool) → not b ≡ true → b ≡ false
not_true true e = sym e
not_true false e = refl

numbered_label : (n : ℕ) → is_label (numbered n) ≡ true
numbered_label n =
    and_from (not (length (numbered n) == 0)) (list_all is_label_byte (numbered n)) (ap not (ne_eqb (suc (length (decimal n))) 0 (λ e. omega (arith, e))))
    (decimal_passes is_label_byte digit_label n)

found_new : (used : List Name) (ns : List ℕ) (o : Option Name) → find (λ name. not (contains used name)) (map numbered ns) ≡ o
    → (AllByRecursion (λ x. contains used x ≡ true) (map numbered ns)) ⊎ ((n : ℕ) × (o ≡ Some (numbered n)) × (contains used (numbered n) ≡ false))
found_new used [] o e = inl tt
found_new used (n ∷ ns) o e = elim (cases_Bool (contains used (numbered n))) [
  | inl d ↦ elim (found_new used ns o (sym (passed n ns d) ∙ e)) [ inl h ↦ inl (d, h) | inr r ↦ inr r ]
  | inr d ↦ inr (n, sym e ∙ found n ns d, d)
]
  where
    passed : (n : ℕ) (ns : List ℕ) → contains used (numbered n) ≡ true → find (λ name. not (contains used name)) (map numbered (n ∷ ns)) ≡ find (λ name. not (contains used name)) (map numbered ns)
    passed n ns d = ap (λ b. cond (not b) (Some (numbered n)) (find (λ name. not (contains used name)) (map numbered ns))) d

    found : (n : ℕ) (ns : List ℕ) → contains used (numbered n) ≡ false → find (λ name. not (contains used name)) (map numbered (n ∷ ns)) ≡ Some (numbered n)
    found n ns d = ap (λ b. cond (not b) (Some (numbered n)) (find (λ name. not (contains used name)) (map numbered ns))) d

pub derived_is_new : (used : List Name) → length used + 2 ≤ 2 ^ 64 → IsNewName used (derived_name used)
derived_is_new used small =
    let ns = range_with_len 1 (suc (length used)) in
    elim (found_new used ns (find (λ name. not (contains used name)) (map numbered ns)) refl) [
      | inl h ↦
          let less = no_more (map numbered ns) used (range_differs 1 (suc (length used)) (omega (arith, small))) h in
          let count = range_length 1 (suc (length used)) in
          absurd (omega (arith, less, count))
      | inr r ↦
          let is : derived_name used ≡ numbered r.0 = ap (λ o. unwrap_or o []) r.1 in
          subst (IsNewName used) (sym is) (record { label = numbered_label r.0; unmarked = refl; is_new = r.2 })
    ]

-- ---- several of them

abbrev AreNew : List Name → List Name → Type 0
AreNew used ds = AllByRecursion (IsNewName used) ds

-- behind names that were used they are no repeats
pub record Extends (used xs ds : List Name) : Type 0 where
  pub are_new : AreNew used ds
  pub differ : has_twice (xs ++ ds) ≡ false

fewer : (u : Name) (used ds : List Name) → AreNew (u ∷ used) ds → AreNew used ds
fewer u used [] h = tt
fewer u used (d ∷ ds) h = (record { label = h.0.label; unmarked = h.0.unmarked; is_new = (or_parts (bytes_eq d u) (contains used d) h.0.is_new).1 }, fewer u used ds h.1)

pub derived_extend : (k : ℕ) (used xs : List Name) → k + length used + 1 ≤ 2 ^ 64 → ((n : Name) → contains xs n ≡ true → contains used n ≡ true)
    → has_twice xs ≡ false → Extends used xs (derived_names k used)
derived_extend zero used xs small inside twice = record { are_new = tt; differ = ap has_twice (nil xs) ∙ twice }
  where
    nil : (ys : List Name) → ys ++ [] ≡ ys
    nil [] = refl
    nil (y ∷ ys) = ap (λ zs. y ∷ zs) (nil ys)
derived_extend (suc k) used xs small inside twice =
    let d = derived_name used in
    let new = derived_is_new used (enough k (length used) small) in
    let absent : contains xs d ≡ false = elim (cases_Bool (contains xs d)) [ inl e ↦ absurd (both_ways (contains used d) new.is_new (inside d e)) | inr e ↦ e ] in
    let rest = derived_extend k (d ∷ used) (xs ++ d ∷ []) (shift k (length used) small) (more d) (twice_push xs d twice absent) in
    record {
      are_new = (new, fewer d used (derived_names k (d ∷ used)) rest.are_new);
      differ = ap has_twice (sym (append_assoc xs (d ∷ []) (derived_names k (d ∷ used)))) ∙ rest.differ;
    }
  where
    enough : (j n : ℕ) → suc j + n + 1 ≤ 2 ^ 64 → n + 2 ≤ 2 ^ 64
    enough j n h = omega (arith, h)

    shift : (j n : ℕ) → suc j + n + 1 ≤ 2 ^ 64 → j + suc n + 1 ≤ 2 ^ 64
    shift j n h = omega (arith, h)

    more : (d n : Name) → contains (xs ++ d ∷ []) n ≡ true → contains (d ∷ used) n ≡ true
    more d n h = elim (contained_in xs (d ∷ []) n h) [
      | inl l ↦ or_right (bytes_eq n d) (contains used n) (inside n l)
      | inr l ↦ elim (or_cases (bytes_eq n d) false l) [ inl e ↦ or_left (bytes_eq n d) (contains used n) e | inr e ↦ let bad : false ≡ true = e in absurd (cc) ]
    ]
