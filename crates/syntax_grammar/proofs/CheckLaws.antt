-- What the tests of the rows of a grammar say.
use Rattle.std.proofs.Common.{◌≡◌, ◌||◌, ◌⊎◌, take, Some, slice_get, ◌<◌, ◌≤◌, ◌+◌, ◌&&◌, ◌==◌, ℕ, zero, suc, Bool, true, false, List, [], ◌∷◌}
use Rattle.std.proofs.Common.{length, refl, sym, ap, ◌∙◌, arith, subst, slice_index_or, nat_lt, ⊎_elim}
use Rattle.std.proofs.lemmas.Bool.{ltb-true, lt-ltb, eqb-true, eq-eqb, and_parts, and_from, or_cases, cases_lt, cases_eq, cases_order}
use Rattle.std.proofs.lemmas.Bool.Decides.{nat_tests}
use Rattle.std.proofs.lemmas.Option.{slice_get_within}
use Rattle.std.specs.List.{list_any}
use Rattle.mm_base.specs.declared.symbols.Label.{Label}
use Rattle.mm_model.proofs.RowLaws.{same_label}
use Rattle.mm_model.specs.declared.rows.Production.{Production}
use Rattle.mm_model.specs.Rows.{EachOnce, LabelsDiffer, place_of}
use Rattle.syntax_grammar.specs.Checks.{stand_first, all_stand}

-- the numbers are below n, and their first places are these
pub record AreFirst (all rest : List ℕ) (at n : ℕ) : Type 0 where
  pub within : (j : ℕ) → j < length rest → slice_index_or rest j 0 < n
  pub once : (j : ℕ) → j < length rest → place_of (slice_index_or rest j 0) all ≡ at + j

first_parts : (all rest : List ℕ) (at n : ℕ) → stand_first all rest at n ≡ true → AreFirst all rest at n
first_parts all [] at n e = record { within = λ j l. absurd (omega arith); once = λ j l. absurd (omega arith) }
first_parts all (k ∷ rest) at n e =
    let one = and_parts (nat_lt k n) ((place_of k all == at) && stand_first all rest (suc at) n) e in
    let two = and_parts (place_of k all == at) (stand_first all rest (suc at) n) one.1 in
    let more = first_parts all rest (suc at) n two.1 in
    record {
      within = within_cons k rest n (ltb-true k n one.0) more.within;
      once = once_cons all k rest at (eqb-true (place_of k all) at two.0) more.once;
    }
  where
    within_cons : (k : ℕ) (rest : List ℕ) (n : ℕ) → k < n → ((j : ℕ) → j < length rest → slice_index_or rest j 0 < n) → (j : ℕ) → j < suc (length rest) → slice_index_or (k ∷ rest) j 0 < n
    within_cons k rest n l h zero m = l
    within_cons k rest n l h (suc j) m = h j (omega arith)

    once_cons : (all : List ℕ) (k : ℕ) (rest : List ℕ) (at : ℕ) → place_of k all ≡ at
        → ((j : ℕ) → j < length rest → place_of (slice_index_or rest j 0) all ≡ suc at + j) → (j : ℕ) → j < suc (length rest)
        → place_of (slice_index_or (k ∷ rest) j 0) all ≡ at + j
    once_cons all k rest at e h zero m = e ∙ (let same : at ≡ at + 0 = omega arith in same)
    once_cons all k rest at e h (suc j) m = h j (omega arith) ∙ (let same : suc at + j ≡ at + suc j = omega arith in same)

first_from : (all rest : List ℕ) (at n : ℕ) → AreFirst all rest at n → stand_first all rest at n ≡ true
first_from all [] at n h = refl
first_from all (k ∷ rest) at n h =
    let here : place_of k all ≡ at = h.once 0 (omega arith) ∙ (let same : at + 0 ≡ at = omega arith in same) in
    and_from (nat_lt k n) ((place_of k all == at) && stand_first all rest (suc at) n) (lt-ltb k n (h.within 0 (omega arith)))
    (and_from (place_of k all == at) (stand_first all rest (suc at) n) (eq-eqb (place_of k all) at here)
    (first_from all rest (suc at) n (record {
      within = λ j l. h.within (suc j) (omega arith);
      once = λ j l. h.once (suc j) (omega arith) ∙ (let same : at + suc j ≡ suc at + j = omega arith in same);
    })))

stand_parts : (order : List ℕ) (n : ℕ) → all_stand order n ≡ true → (k : ℕ) → k < n → place_of k order < length order
stand_parts order zero e k l = absurd (omega arith)
stand_parts order (suc n) e k l =
    let parts = and_parts (all_stand order n) (nat_lt (place_of n order) (length order)) e in
    ⊎_elim (λ (is : k ≡ n). subst (λ i. place_of i order < length order) (sym is) (ltb-true (place_of n order) (length order) parts.1))
    (λ (other : k ≡ n → ⊥). stand_parts order n parts.0 k (let less : k < n = omega (arith, other, l) in less)) (cases_eq k n)

stand_from : (order : List ℕ) (n : ℕ) → ((k : ℕ) → k < n → place_of k order < length order) → all_stand order n ≡ true
stand_from order zero h = refl
stand_from order (suc n) h =
    and_from (all_stand order n) (nat_lt (place_of n order) (length order)) (stand_from order n (λ k l. h k (omega arith))) (lt-ltb (place_of n order) (length order) (h n (omega arith)))

pub each_once_from : (order : List ℕ) (n : ℕ) → stand_first order order 0 n ≡ true → all_stand order n ≡ true → EachOnce n order
each_once_from order n e f =
    let first = first_parts order order 0 n e in
    record { within = first.within; found = stand_parts order n f; once = λ j l. first.once j l ∙ (let same : 0 + j ≡ j = omega arith in same) }

pub first_of_once : (order : List ℕ) (n : ℕ) → EachOnce n order → stand_first order order 0 n ≡ true
first_of_once order n h = first_from order order 0 n (record { within = h.within; once = λ j l. h.once j l ∙ (let same : j ≡ 0 + j = omega arith in same) })

pub stand_of_once : (order : List ℕ) (n : ℕ) → EachOnce n order → all_stand order n ≡ true
stand_of_once order n h = stand_from order n h.found

-- ---- labels

-- the first rows have labels that differ, and the next has none of theirs
abbrev pub Apart : List Production → ℕ → Type 0
Apart rows k = (i j : ℕ) (r s : Production) → i < j → j < k → slice_get rows i ≡ Some r → slice_get rows j ≡ Some s → r.label ≡ s.label → ⊥

or_none : (a b : Bool) → (a || b) ≡ false → (a ≡ false) × (b ≡ false)
or_none true b e = absurd (cc)
or_none false b e = (refl, e)

label_other : (l m : Label) → (l.0 == m.0) ≡ false → l ≡ m → ⊥
label_other l m e same =
    let is = ap (λ (x : Label). x.0) same in
    grind (arith, nat_tests)

none_before : (l : Label) (rows : List Production) (k : ℕ) → list_any (λ (r : Production). r.label.0 == l.0) (take k rows) ≡ false
    → (i : ℕ) (r : Production) → i < k → slice_get rows i ≡ Some r → r.label ≡ l → ⊥
none_before l [] k e i r m at same = absurd (cc)
none_before l (x ∷ rows) zero e i r m at same = absurd (omega arith)
none_before l (x ∷ rows) (suc k) e zero r m at same =
    let is : x ≡ r = cc in
    let first = or_none (x.label.0 == l.0) (list_any (λ (r : Production). r.label.0 == l.0) (take k rows)) e in
    label_other x.label l first.0 (ap (λ (y : Production). y.label) is ∙ same)
none_before l (x ∷ rows) (suc k) e (suc i) r m at same =
    let first = or_none (x.label.0 == l.0) (list_any (λ (r : Production). r.label.0 == l.0) (take k rows)) e in
    none_before l rows k first.1 i r (omega arith) at same

pub apart_turn : (rows : List Production) (k : ℕ) (x : Production) → slice_get rows k ≡ Some x
    → list_any (λ (r : Production). r.label.0 == x.label.0) (take k rows) ≡ false → Apart rows k → Apart rows (k + 1)
apart_turn rows k x here none h i j r s l m at there same = ⊎_elim
    (λ (n : j < k). h i j r s l n at there same)
    (λ (n : k ≤ j).
    let is : j ≡ k = omega arith in
    let there' : slice_get rows k ≡ Some s = subst (λ p. slice_get rows p ≡ Some s) is there in
    let one : s ≡ x = cc in
    none_before x.label rows k none i r (omega arith) at (same ∙ ap (λ (y : Production). y.label) one)) (cases_lt j k)

pub apart_differ : (rows : List Production) (k : ℕ) → length rows ≤ k → Apart rows k → LabelsDiffer rows
apart_differ rows k last h i j r s at there same =
    let first = slice_get_within rows i r at in
    let second = slice_get_within rows j s there in
    ⊎_elim (λ (is : i ≡ j). is) (λ (o : (i < j) ⊎ (j < i)). ⊎_elim
    (λ (l : i < j). absurd (h i j r s l (omega arith) at there same))
    (λ (l : j < i). absurd (h j i s r l (omega arith) there at (sym same))) o) (cases_order i j)

some_before : (l : Label) (rows : List Production) (k : ℕ) → list_any (λ (r : Production). r.label.0 == l.0) (take k rows) ≡ true
    → (i : ℕ) × (r : Production) × (i < k) × (slice_get rows i ≡ Some r) × (r.label ≡ l)
some_before l [] zero e = absurd (cc)
some_before l [] (suc k) e = absurd (cc)
some_before l (x ∷ rows) zero e = absurd (cc)
some_before l (x ∷ rows) (suc k) e = ⊎_elim
    (λ (h : (x.label.0 == l.0) ≡ true). (0, x, omega arith, refl, same_label x.label l h))
    (λ (h : list_any (λ (r : Production). r.label.0 == l.0) (take k rows) ≡ true). let s = some_before l rows k h in (suc s.0, s.1, omega (arith, s.2), s.3, s.4))
    (or_cases (x.label.0 == l.0) (list_any (λ (r : Production). r.label.0 == l.0) (take k rows)) e)

pub found_twice : (rows : List Production) (k : ℕ) (x : Production) → slice_get rows k ≡ Some x → list_any (λ (r : Production). r.label.0 == x.label.0) (take k rows) ≡ true → LabelsDiffer rows → ⊥
found_twice rows k x here some h =
    let s = some_before x.label rows k some in
    let is = h s.0 k s.1 x s.3 here s.4 in
    omega (arith, s.2, is)
