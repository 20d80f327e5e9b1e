-- The first label that fits among some, and among all.
use Rattle.std.proofs.Common.{◌≡◌, ℕ, zero, suc, ◌+◌, ◌<◌, ◌≤◌, ◌==◌, ◌&&◌, Bool, true, false, List, [], ◌∷◌, length, map, filter, take, get_or}
use Rattle.std.proofs.Common.{slice_get, Option, Some, None, option_and_then, refl, sym, ap, subst, ◌∙◌, ◌⊎◌, inl, inr, add-one, arith, Result, IfOk}
use Rattle.std.proofs.lemmas.Bool.{cases_Bool}
use Rattle.std.proofs.lemmas.Bool.Decides.{nat_tests}
use Rattle.std.specs.List.{AllByRecursion, range_with_len}
use Rattle.mm_base.specs.declared.errors.Memory.{Memory}
use Rattle.mm_base.specs.declared.kinds.Kinds.{Kinds}
use Rattle.mm_base.specs.declared.symbols.Label.{Label}
use Rattle.mm_base.specs.declared.symbols.Pair.{Pair}
use Rattle.mm_model.specs.Names.{label}
use Rattle.mm_database.specs.declared.assertions.Parsed.{Parsed}
use Rattle.mm_database.specs.Books.{parsed_at}
use Rattle.mm_database.specs.ByHead.{has_head, stands_by, by_head}
use Rattle.mm_database.specs.Opened.{Opened}
use Rattle.ref_search.specs.declared.wanted.Wanted.{Wanted}
use Rattle.ref_search.specs.declared.wanted.Found.{Found}
use Rattle.ref_search.specs.Placing.{IsClosed}
use Rattle.ref_search.specs.Searching.{book, NoFit, IsLabelFit, IsCandidate, RiseFrom, HasFound, upto, as_fit, IsFoundAt, IsFirstAmong, IsFirstBelow, ForEachText, head_of}
use Rattle.ref_search.proofs.Lists.{same_number, numbers_differ}
use Rattle.ref_search.proofs.LabelLaws.{Standing, at_variable, at_head, never, standing, nothing_kept, never_conclusion, other_number, some_is_some, none_is_none}

-- ---- labels that rise

module _ (N : Label → Type 0) where
  none_below : (u low : ℕ) (ls : List Label) → RiseFrom low ls → u ≤ low → AllByRecursion (λ (l : Label). l.0 < u → N l) ls
  none_below u low [] r h = tt
  none_below u low (l ∷ ls) r h = (λ x. absurd (omega (arith, r.0, h, x)), none_below u (l.0 + 1) ls r.1 (omega (arith, r.0, h)))

  pub front_is_all : (u low : ℕ) (ls : List Label) (i : ℕ) (d : Label) → RiseFrom low ls → AllByRecursion N (take i ls) → (i < length ls → u ≤ (get_or ls i d).0)
      → AllByRecursion (λ (l : Label). l.0 < u → N l) ls
  front_is_all u low [] i d r h k = tt
  front_is_all u low (l ∷ ls) zero d r h k =
      let here : u ≤ l.0 = k (omega arith) in
      (λ x. absurd (omega (arith, here, x)), none_below u (l.0 + 1) ls r.1 (omega (arith, here)))
  front_is_all u low (l ∷ ls) (suc i) d r h k = (λ x. h.0, front_is_all u (l.0 + 1) ls i d r.1 h.1 (λ x. k (omega (arith, x))))

pub one_more_of : {X : Type 0} (P : X → Type 0) (xs : List X) (i : ℕ) (d : X) → i < length xs → AllByRecursion P (take i xs) → P (get_or xs i d) → AllByRecursion P (take (i + 1) xs)
one_more_of P xs i d h k p = rw add-one (by xs i h k p)
  where
    by : (xs : List _) (i : ℕ) → i < length xs → AllByRecursion P (take i xs) → P (get_or xs i d) → AllByRecursion P (take (suc i) xs)
    by [] i h k p = absurd (omega arith)
    by (x ∷ xs) zero h k p = (p, tt)
    by (x ∷ xs) (suc i) h k p = (k.0, by xs i (omega arith) k.1 p)

-- ---- the labels of a head

all_filter : (P : Label → Type 0) (p : Label → Bool) → ((x : Label) → p x ≡ true → P x) → (xs : List Label) → AllByRecursion P (filter p xs)
all_filter P p h [] = tt
all_filter P p h (x ∷ xs) = elim (cases_Bool (p x)) [ inl is ↦ rw is (h x is, all_filter P p h xs) | inr not ↦ rw not (all_filter P p h xs) ]

rise_lower : (a b : ℕ) (ls : List Label) → a ≤ b → RiseFrom b ls → RiseFrom a ls
rise_lower a b [] h r = tt
rise_lower a b (l ∷ ls) h r = (omega (arith, h, r.0), r.1)

filter_rises : (p : Label → Bool) (a m : ℕ) → RiseFrom a (filter p (map label (range_with_len a m)))
filter_rises p a zero = tt
filter_rises p a (suc m) = elim (cases_Bool (p (label a))) [
  | inl is ↦ rw is (omega arith, filter_rises p (a + 1) m)
  | inr not ↦ rw not (rise_lower a (a + 1) (filter p (map label (range_with_len (a + 1) m))) (omega arith) (filter_rises p (a + 1) m))
]

filter_has : (N : Label → Type 0) (p : Label → Bool) (a m k : ℕ) → AllByRecursion N (filter p (map label (range_with_len a m))) → a ≤ k → k < a + m → p (label k) ≡ true → N (label k)
filter_has N p a zero k h l u e = absurd (omega arith)
filter_has N p a (suc m) k h l u e = elim (cases_Bool (a == k)) [
  | inl is ↦
      let same : a ≡ k = same_number a k is in
      let passes : p (label a) ≡ true = subst (λ j. p (label j) ≡ true) (sym same) e in
      let here : AllByRecursion N (label a ∷ filter p (map label (range_with_len (a + 1) m))) = rw passes at h in
      subst (λ j. N (label j)) same here.0
  | inr not ↦
      let less : a + 1 ≤ k = grind (arith, nat_tests, not, l) in
      filter_has N p (a + 1) m k (elim (cases_Bool (p (label a))) [
        | inl is ↦ let here : AllByRecursion N (label a ∷ filter p (map label (range_with_len (a + 1) m))) = rw is at h in here.1
        | inr fails ↦ rw fails at h
      ]) less (omega (arith, u)) e
]

both_true : (a b : Bool) → (a && b) ≡ true → (a ≡ true) × (b ≡ true)
both_true true true e = (refl, refl)
both_true true false e = absurd (cc)
both_true false b e = absurd (cc)

stands_kept : (parsed : List (Option Parsed)) (head : Option Label) (n : ℕ) (l : Label) → stands_by head n (parsed_at parsed l) ≡ true → IsCandidate parsed n l
stands_kept parsed head n l = by (parsed_at parsed l) refl
  where
    by : (o : Option Parsed) → parsed_at parsed l ≡ o → stands_by head n o ≡ true → IsCandidate parsed n l
    by None e h = absurd (cc)
    by (Some p) e h = (p, e, same_number (length p.hyps) n (both_true (has_head head p.tree) (length p.hyps == n) h).1)

pub candidates_of : (parsed : List (Option Parsed)) (head : Option Label) (n : ℕ) (ls : List Label) → ls ≡ by_head parsed head n → AllByRecursion (IsCandidate parsed n) ls
candidates_of parsed head n ls e =
    subst (AllByRecursion (IsCandidate parsed n)) (sym e)
    (all_filter (IsCandidate parsed n) (λ (l : Label). stands_by head n (parsed_at parsed l)) (λ l h. stands_kept parsed head n l h) (map label (range_with_len 0 (length parsed))))

pub rise_of : (parsed : List (Option Parsed)) (head : Option Label) (n : ℕ) (ls : List Label) → ls ≡ by_head parsed head n → RiseFrom 0 ls
rise_of parsed head n ls e = subst (RiseFrom 0) (sym e) (filter_rises (λ (l : Label). stands_by head n (parsed_at parsed l)) 0 (length parsed))

within : (parsed : List (Option Parsed)) (k : ℕ) (p : Parsed) → option_and_then (λ (o : Option Parsed). o) (slice_get parsed k) ≡ Some p → k < length parsed
within [] k p e = absurd (cc)
within (x ∷ xs) zero p e = omega arith
within (x ∷ xs) (suc k) p e = let rest = within xs k p e in omega (arith, rest)

pub stands_there : (N : Label → Type 0) (parsed : List (Option Parsed)) (head : Option Label) (n : ℕ) (l : Label) (p : Parsed) → AllByRecursion N (by_head parsed head n) → parsed_at parsed l ≡ Some p
    → has_head head p.tree ≡ true → length p.hyps ≡ n → N l
stands_there N parsed head n l p h e t c =
    let below = within parsed l.0 p e in
    filter_has N (λ (l : Label). stands_by head n (parsed_at parsed l)) 0 (length parsed) l.0 h (omega arith) (omega (arith, below))
    (ap (stands_by head n) e ∙ passes (has_head head p.tree) (length p.hyps) t c)
  where
    passes : (b : Bool) (k : ℕ) → b ≡ true → k ≡ n → (b && k == n) ≡ true
    passes true k x y = grind (arith, nat_tests, y)
    passes false k x y = absurd (cc)

-- ---- all labels, by those of the heads

module _ (kinds : Kinds) (text : List ℕ) (d : Opened) (given : Option (List Pair)) (w : Wanted) (closed : IsClosed w) where
  -- a label that may fit has what all labels of the variables and of the wanted head have
  pub label_stands : (Q : Label → Type 0) → AllByRecursion Q (by_head d.parsed None (length w.hyps))
      → ((h : Label) → head_of w.formula ≡ Some h → AllByRecursion Q (by_head d.parsed (Some h) (length w.hyps)))
      → (l : Label) → NoFit (book kinds text d) given w l ⊎ Q l
  label_stands Q early late l = by (parsed_at d.parsed l) refl
    where
      stand : (p : Parsed) → parsed_at d.parsed l ≡ Some p → length p.hyps ≡ length w.hyps → Standing p.tree w.formula → NoFit (book kinds text d) given w l ⊎ Q l
      stand p e n (at_variable h) = inr (stands_there Q d.parsed None (length w.hyps) l p early e h n)
      stand p e n (at_head {h = m} is h) = inr (stands_there Q d.parsed (Some m) (length w.hyps) l p (late m is) e h n)
      stand p e n (never h) = inl (never_conclusion kinds text d given w l p e h)

      by : (o : Option Parsed) → parsed_at d.parsed l ≡ o → NoFit (book kinds text d) given w l ⊎ Q l
      by None e = inl (nothing_kept kinds text d given w l e)
      by (Some p) e = elim (cases_Bool (length p.hyps == length w.hyps)) [
        | inl is ↦ stand p e (same_number (length p.hyps) (length w.hyps) is) (standing w.formula closed.formula p.tree)
        | inr not ↦ inl (other_number kinds text d given w l p e (λ n. numbers_differ (length p.hyps) (length w.hyps) not n))
      ]

  pub no_label : (u : ℕ) → AllByRecursion (λ (l : Label). l.0 < u → NoFit (book kinds text d) given w l) (by_head d.parsed None (length w.hyps))
      → ((h : Label) → head_of w.formula ≡ Some h → AllByRecursion (λ (l : Label). l.0 < u → NoFit (book kinds text d) given w l) (by_head d.parsed (Some h) (length w.hyps)))
      → (l : Label) → l.0 < u → NoFit (book kinds text d) given w l
  no_label u early late l below = elim (label_stands (λ (l : Label). l.0 < u → NoFit (book kinds text d) given w l) early late l) [ inl none ↦ none | inr none ↦ none below ]

-- ---- what the calls say, put together

module _ (kinds : Kinds) (text : List ℕ) (d : Opened) (given : Option (List Pair)) (w : Wanted) (labels : List Label) (rise : RiseFrom 0 labels) (bound i : ℕ) (e : Label)
    (so_far : AllByRecursion (NoFit (book kinds text d) given w) (take i labels)) where
  pub stopped : (i < length labels → bound ≤ (get_or labels i e).0) → IsFirstAmong (book kinds text d) given w labels bound None
  stopped h = record { before = front_is_all (NoFit (book kinds text d) given w) bound 0 labels i e rise so_far h; found = tt }

  pub found_there : (found : Found) → found.label ≡ get_or labels i e → found.label.0 < bound → IsLabelFit (book kinds text d) given w found.label (Some (as_fit found))
      → IsFirstAmong (book kinds text d) given w labels bound (Some found)
  found_there found is below fits = record {
    before = front_is_all (NoFit (book kinds text d) given w) found.label.0 0 labels i e rise so_far (λ h. subst (λ (l : Label). found.label.0 ≤ l.0) is (omega arith));
    found = record { below = below; fits = fits };
  }

pub among_of : (d : Opened) (given : Option (List Pair)) (w : Wanted) (ls all : List Label) (bound : ℕ) (r : Result (Option Found) Memory) → ls ≡ all
    → IfOk r (λ o. ForEachText d (λ b. IsFirstAmong b given w ls bound o)) → IfOk r (λ o. ForEachText d (λ b. IsFirstAmong b given w all bound o))
among_of d given w ls all bound r e h = subst (λ xs. IfOk r (λ o. ForEachText d (λ b. IsFirstAmong b given w xs bound o))) e h

weaker_all : (N : Label → Type 0) (u v : ℕ) → v ≤ u → (ls : List Label) → AllByRecursion (λ (l : Label). l.0 < u → N l) ls → AllByRecursion (λ (l : Label). l.0 < v → N l) ls
weaker_all N u v h [] k = tt
weaker_all N u v h (l ∷ ls) k = (λ x. k.0 (omega (arith, x, h)), weaker_all N u v h ls k.1)

module _ (kinds : Kinds) (text : List ℕ) (d : Opened) (given : Option (List Pair)) (w : Wanted) (closed : IsClosed w) (bound : ℕ) (early : Option Found)
    (among : IsFirstAmong (book kinds text d) given w (by_head d.parsed None (length w.hyps)) bound early) where
  pub early_alone : head_of w.formula ≡ None → IsFirstBelow (book kinds text d) given w bound early
  early_alone e = record {
    before = no_label kinds text d given w closed (upto bound early) among.before (λ h f. absurd (none_is_none (head_of w.formula) h e f));
    found = among.found;
  }

  module _ (h : Label) (head : head_of w.formula ≡ Some h) (middle : ℕ) (middle_is : middle ≡ upto bound early) where
    same_head_all : (v : ℕ) → AllByRecursion (λ (l : Label). l.0 < v → NoFit (book kinds text d) given w l) (by_head d.parsed (Some h) (length w.hyps))
        → (m : Label) → head_of w.formula ≡ Some m → AllByRecursion (λ (l : Label). l.0 < v → NoFit (book kinds text d) given w l) (by_head d.parsed (Some m) (length w.hyps))
    same_head_all v k m e =
        subst (λ x. AllByRecursion (λ (l : Label). l.0 < v → NoFit (book kinds text d) given w l) (by_head d.parsed (Some x) (length w.hyps))) (some_is_some (head_of w.formula) h m head e) k

    pub early_first : (o : Option Found) → o ≡ None → IsFirstAmong (book kinds text d) given w (by_head d.parsed (Some h) (length w.hyps)) middle o
        → IsFirstBelow (book kinds text d) given w bound early
    early_first o none late = record {
      before = no_label kinds text d given w closed (upto bound early) among.before
          (same_head_all (upto bound early) (subst (λ v. AllByRecursion (λ (l : Label). l.0 < v → NoFit (book kinds text d) given w l) (by_head d.parsed (Some h) (length w.hyps)))
          (ap (upto middle) none ∙ middle_is) late.before));
      found = among.found;
    }

    not_past : (o : Option Found) → HasFound (IsFoundAt (book kinds text d) given w bound) o → upto bound o ≤ bound
    not_past None k = omega arith
    not_past (Some f) k = omega (arith, k.below)

    pub late_first : (o : Option Found) (found : Found) → o ≡ Some found → IsFirstAmong (book kinds text d) given w (by_head d.parsed (Some h) (length w.hyps)) middle o
        → IsFirstBelow (book kinds text d) given w bound (Some found)
    late_first o found is late =
        let there = subst (λ p. IsFirstAmong (book kinds text d) given w (by_head d.parsed (Some h) (length w.hyps)) middle p) is late in
        let past = not_past early among.found in
        record {
          before = no_label kinds text d given w closed found.label.0
              (weaker_all (NoFit (book kinds text d) given w) (upto bound early) found.label.0 (omega (arith, there.found.below, middle_is)) (by_head d.parsed None (length w.hyps)) among.before)
              (same_head_all found.label.0 there.before);
          found = record { below = omega (arith, there.found.below, middle_is, past); fits = there.found.fits };
        }
