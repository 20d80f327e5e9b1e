-- The least number that makes a name not used, over lists that have the same names.
use Rattle.std.proofs.Common.{◌≡◌, ℕ, zero, suc, ◌+◌, ◌-◌, ◌<◌, ◌≤◌, ◌^◌, Bool, true, false, ◌||◌, cond, take, get_or, append_assoc, append-nil, List}
use Rattle.std.proofs.Common.{[], ◌∷◌, ◌++◌, map, length, unwrap_or, codes, decimal, refl, sym, ap, ◌∙◌, inl, inr, add-one, arith}
use Rattle.std.specs.Cmp.{IsEquivalence}
use Rattle.std.specs.List.{AllByRecursion, IsDistinct, filter_map, range_with_len}
use Rattle.std.specs.Set.{is_member}
use Rattle.std.specs.Str.{bytes_eq}
use Rattle.std.proofs.lemmas.Bool.{cases_Bool, or_cases, or_right}
use Rattle.std.proofs.lemmas.Fmt.{decimal_injective}
use Rattle.std.proofs.lemmas.List.{append_cancel_left, take_more, map-append}
use Rattle.std.proofs.lemmas.List.Elements.{filter_map-append}
use Rattle.std.proofs.lemmas.List.Folds.{list_any-append}
use Rattle.std.proofs.lemmas.List.FromFn.{length-map-range_with_len}
use Rattle.std.proofs.lemmas.Map.Made.{length-le_from_is_member}
use Rattle.std.proofs.lemmas.Slice.Eq.{bytes_eq-Decides}
use Rattle.mm_model.specs.Names.{Name, contains}
use Rattle.sheet_text.specs.Layout.{step_of_item}
use Rattle.sheet_text.specs.declared.sheet.SheetItem.{SheetItem}
use Rattle.sheet_text.specs.declared.sheet.SheetItem.TheVariants as item
use Rattle.sheet_text.specs.declared.sheet.SheetStep.{SheetStep}
use Rattle.written_model.specs.Filled.{derived_name, derived_names}
use Rattle.hyp_derive.specs.Naming.{numbered_name, item_names, with_name, AreUsedBelow, HaveSameNames, IsLeastNew}
use Rattle.hyp_derive.proofs.NameLaws.{other_test, find_first, contains_more}

-- ---- a list has no more names than another that has them all

same_bytes : (a b : Name) → bytes_eq a b ≡ true → a ≡ b
same_bytes a b e = (bytes_eq-Decides a b).0 e

bytes_itself : (a : Name) → bytes_eq a a ≡ true
bytes_itself a = (bytes_eq-Decides a a).1 refl

turned : (a b : Name) (p q : Bool) → bytes_eq a b ≡ p → bytes_eq b a ≡ q → p ≡ q
turned a b true true e f = refl
turned a b true false e f = sym (sym (ap (λ x. bytes_eq x a) (same_bytes a b e)) ∙ bytes_itself a) ∙ f
turned a b false true e f = sym e ∙ ap (λ x. bytes_eq x b) (sym (same_bytes b a f)) ∙ bytes_itself b
turned a b false false e f = refl

bytes_equivalence : IsEquivalence bytes_eq
bytes_equivalence = record {
  refl = bytes_itself;
  symm = λ a b. turned a b (bytes_eq a b) (bytes_eq b a) refl refl;
  congr = λ a b c e. ap (λ x. bytes_eq x c) (same_bytes a b e);
}

numbers_differ : (n m : ℕ) → n < 2 ^ 64 → m < 2 ^ 64 → (n ≡ m → ⊥) → bytes_eq (numbered_name n) (numbered_name m) ≡ false
numbers_differ n m h k d = other_test n (numbered_name m) (λ is. d (decimal_injective n m h k (append_cancel_left (codes "d") (decimal n) (decimal m) (sym is))))

later_differ : (a b n : ℕ) → a < b → b + n ≤ 2 ^ 64 → AllByRecursion (λ name. bytes_eq (numbered_name a) name ≡ false) (map numbered_name (range_with_len b n))
later_differ a b zero l h = tt
later_differ a b (suc n) l h = (numbers_differ a b (omega arith) (omega arith) (λ e. omega (arith, e, l)), later_differ a (b + 1) n (omega arith) (omega arith))

range_distinct : (a n : ℕ) → a + n ≤ 2 ^ 64 → IsDistinct bytes_eq (map numbered_name (range_with_len a n))
unfolding IsDistinct
range_distinct a zero h = tt
range_distinct a (suc n) h = (later_differ a (a + 1) n (omega arith) (omega arith), range_distinct (a + 1) n (omega arith))

range_inside : (used : List Name) (a n : ℕ) → ((k : ℕ) → a ≤ k → k < a + n → contains used (numbered_name k) ≡ true) → (name : Name)
    → is_member bytes_eq (map numbered_name (range_with_len a n)) name ≡ true → is_member bytes_eq used name ≡ true
range_inside used a zero h name e = absurd (cc)
range_inside used a (suc n) h name e = elim (or_cases (bytes_eq name (numbered_name a)) (is_member bytes_eq (map numbered_name (range_with_len (a + 1) n)) name) e) [
  | inl s ↦ ap (contains used) (same_bytes name (numbered_name a) s) ∙ h a (omega arith) (omega arith)
  | inr l ↦ range_inside used (a + 1) n (λ k from to. h k (omega (arith, from)) (omega (arith, to))) name l
]

pub used_bounded : (used : List Name) (m : ℕ) → m < 2 ^ 64 → ((n : ℕ) → 1 ≤ n → n < 1 + m → contains used (numbered_name n) ≡ true) → m ≤ length used
used_bounded used m small h =
    let count = length-map-range_with_len numbered_name 1 m in
    let less = length-le_from_is_member bytes_equivalence (map numbered_name (range_with_len 1 m)) used (range_distinct 1 m (omega arith)) (range_inside used 1 m h) in
    omega (arith, count, less)

-- ---- the least number

pub least_below : (used : List Name) (k : ℕ) → IsLeastNew used k → AreUsedBelow used k
least_below used k least = record { from_one = least.from_one; are_used = λ n from to. told n from to (contains used (numbered_name n)) refl }
  where
    told : (n : ℕ) → 1 ≤ n → n < k → (b : Bool) → contains used (numbered_name n) ≡ b → contains used (numbered_name n) ≡ true
    told n from to true e = e
    told n from to false e = let most = least.least n from e in absurd (omega (arith, most, to))

pub no_end : (used : List Name) (k : ℕ) → AreUsedBelow used k → length used + 2 ≤ k → length used + 2 < 2 ^ 64 → ⊥
no_end used k below h small =
    let less = used_bounded used (length used + 1) (omega (arith, small)) (λ n from to. below.are_used n from (omega (arith, to, h))) in
    omega (arith, less)

pub least_is_derived : (used other : List Name) (k : ℕ) → HaveSameNames used other → IsLeastNew used k → k < 2 ^ 64 → numbered_name k ≡ derived_name other
least_is_derived used other k have least small =
    let below = least_below used k least in
    let inside : (n : ℕ) → 1 ≤ n → n < k → contains other (numbered_name n) ≡ true = λ n from to. sym (have.same (numbered_name n)) ∙ below.are_used n from to in
    let bounded = used_bounded other (k - 1) (omega (arith, small)) (λ n from to. inside n from (omega (arith, to, least.from_one))) in
    let free : contains other (numbered_name k) ≡ false = sym (have.same (numbered_name k)) ∙ least.holds in
    ap (λ o. unwrap_or o []) (sym (find_first other (suc (length other)) 1 k least.from_one (omega (arith, bounded)) free inside))

-- ---- lists that have the same names

or_false : (a : Bool) → (a || false) ≡ a
or_false true = refl
or_false false = refl

or_moved : (a b c : Bool) → (a || (b || c)) ≡ ((b || a) || c)
or_moved true true c = refl
or_moved true false c = refl
or_moved false true c = refl
or_moved false false c = refl

contains_all : (xs ys : List Name) (name : Name) → contains (xs ++ ys) name ≡ (contains xs name || contains ys name)
contains_all xs ys name = list_any-append (bytes_eq name) xs ys

-- one name more, on either side
pub same_with : (used used' other : List Name) (name : Name) → HaveSameNames used other → used' ≡ with_name used name → HaveSameNames used' (other ++ name ∷ [])
same_with used used' other name have e = record { same = λ n. ap (λ (names : List Name). contains names n) e ∙ put n (contains used name) refl }
  where
    put : (n : Name) (b : Bool) → contains used name ≡ b → contains (cond b used (used ++ name ∷ [])) n ≡ contains (other ++ name ∷ []) n
    put n false f = contains_more used name n ∙ ap (λ b. b || bytes_eq n name) (have.same n) ∙ sym (contains_more other name n)
    put n true f = elim (cases_Bool (bytes_eq n name)) [
      | inl s ↦ ap (contains used) (same_bytes n name s) ∙ f ∙ sym (contains_more other name n ∙ or_right (contains other n) (bytes_eq n name) s)
      | inr d ↦ have.same n ∙ sym (contains_more other name n ∙ ap (λ b. contains other n || b) d ∙ or_false (contains other n))
    ]

-- the names of the steps among items
abbrev pub names_of : List SheetItem → List Name
names_of items = map (λ (s : SheetStep). s.name) (filter_map step_of_item items)

one_item : (i : SheetItem) → names_of (i ∷ []) ≡ item_names i
one_item (item.Comment lines) = refl
one_item (item.Step s) = refl

pub item_more : (items : List SheetItem) (i : ℕ) (one : SheetItem) → i < length items → one ≡ get_or items i one → names_of (take (i + 1) items) ≡ names_of (take i items) ++ item_names one
item_more items i one h is =
    ap names_of (take_more items i one h ∙ ap (λ (x : SheetItem). take i items ++ x ∷ []) (sym is))
    ∙ ap (map (λ (s : SheetStep). s.name)) (filter_map-append step_of_item (take i items) (one ∷ []))
    ∙ map-append (λ (s : SheetStep). s.name) (filter_map step_of_item (take i items)) (filter_map step_of_item (one ∷ []))
    ∙ ap (λ names. names_of (take i items) ++ names) (one_item one)

-- ---- several new names

-- the names that are used after so many new ones
abbrev after : ℕ → List Name → List Name
after zero used = used
after (suc n) used = after n (derived_name used ∷ used)

derived_last : (n : ℕ) (used : List Name) → derived_names (suc n) used ≡ derived_names n used ++ derived_name (after n used) ∷ []
derived_last zero used = refl
derived_last (suc n) used = ap (λ names. derived_name used ∷ names) (derived_last n (derived_name used ∷ used))

after_same : (n : ℕ) (used : List Name) (name : Name) → contains (used ++ derived_names n used) name ≡ contains (after n used) name
after_same zero used name = ap (λ (names : List Name). contains names name) (append-nil used)
after_same (suc n) used name =
    let d = derived_name used in
    let more = derived_names n (d ∷ used) in
    contains_all used (d ∷ more) name ∙ or_moved (contains used name) (bytes_eq name d) (contains more name) ∙ sym (contains_all (d ∷ used) more name) ∙ after_same n (d ∷ used) name

-- so many new names were given, and are used
pub record AreDerived (old now names : List Name) (n : ℕ) : Type 0 where
  pub value : now ≡ old ++ names
  pub names_are : (used : List Name) → HaveSameNames old used → names ≡ derived_names n used

pub derived_none : (old : List Name) → AreDerived old old [] 0
derived_none old = record { value = sym (append-nil old); names_are = λ used have. refl }

pub derived_more : (old now now' names names' : List Name) (n : ℕ) (name : Name) → AreDerived old now names n → ((used : List Name) → HaveSameNames now used → name ≡ derived_name used)
    → now' ≡ now ++ name ∷ [] → names' ≡ names ++ name ∷ [] → AreDerived old now' names' (n + 1)
derived_more old now now' names names' n name are is e f = record {
  value = e ∙ ap (λ xs. xs ++ name ∷ []) are.value ∙ append_assoc old names (name ∷ []) ∙ ap (λ xs. old ++ xs) (sym f);
  names_are = λ used have.
      f ∙ ap (λ xs. xs ++ name ∷ []) (are.names_are used have) ∙ ap (λ x. derived_names n used ++ x ∷ []) (is (after n used) (record { same = λ x. moved used have x }))
      ∙ sym (derived_last n used) ∙ ap (λ m. derived_names m used) (sym (add-one n));
}
  where
    moved : (used : List Name) → HaveSameNames old used → (x : Name) → contains now x ≡ contains (after n used) x
    moved used have x =
        ap (λ (xs : List Name). contains xs x) are.value ∙ contains_all old names x ∙ ap (λ b. b || contains names x) (have.same x)
        ∙ ap (λ (xs : List Name). contains used x || contains xs x) (are.names_are used have) ∙ sym (contains_all used (derived_names n used) x) ∙ after_same n used x

pub derived_some : (old now names : List Name) (n : ℕ) → AreDerived old now names n → now ≡ old ++ derived_names n old
derived_some old now names n are = are.value ∙ ap (λ xs. old ++ xs) (are.names_are old (record { same = λ x. refl }))
