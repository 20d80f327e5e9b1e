-- All labels that fit, in order.
use Rattle.std.proofs.Common.{◌≡◌, ◌↔◌, ℕ, zero, suc, ◌+◌, ◌<◌, ◌≤◌, ◌==◌, Bool, true, false, List, [], ◌∷◌, ◌++◌, length, nat_lt, map, fold, take}
use Rattle.std.proofs.Common.{drop, get_or, Option, Some, None, is_some, refl, sym, ap, subst, ◌∙◌, ◌⊎◌, inl, inr, add-one, arith, Result, IfOk}
use Rattle.std.specs.BTreeSet.{insert_key}
use Rattle.std.specs.List.{AllByRecursion, Contains, range_with_len, slice_index_or}
use Rattle.std.specs.Ordering.{nat_cmp}
use Rattle.std.proofs.lemmas.Bool.{cases_Bool, cases_order}
use Rattle.std.proofs.lemmas.Bool.Decides.{nat_tests}
use Rattle.std.proofs.lemmas.List.Sums.{count_by-le-length}
use Rattle.mm_base.specs.declared.errors.Memory.{Memory}
use Rattle.mm_base.specs.declared.kinds.Kinds.{Kinds}
use Rattle.mm_base.specs.declared.symbols.Label.{Label}
use Rattle.mm_base.specs.declared.symbols.Pair.{Pair}
use Rattle.mm_base.proofs.NumberTests.{is_less, no_less, no_self, is_equal, differs_above}
use Rattle.mm_model.specs.Names.{label}
use Rattle.mm_model.specs.Book.{Database, position_of}
use Rattle.mm_frames.specs.Contents.{Contents}
use Rattle.mm_database.specs.ByHead.{by_head}
use Rattle.mm_database.specs.Opened.{Opened, labels_before}
use Rattle.sheet_text.specs.declared.sheet.Given.{Given}
use Rattle.solve_model.specs.Firsts.{IsFirstOrNone}
use Rattle.solve_laws.proofs.Elements.{nothing, first, later, parted}
use Rattle.written_model.specs.declared.options.DvMode.{DvMode}
use Rattle.written_model.specs.Fitting.{AreThoseWith, FitsInSomeOrder, all_labels}
use Rattle.written_model.specs.Found.{search_orders, Fits}
use Rattle.written_model.specs.WrittenSteps.{WrittenStep}
use Rattle.ref_search.specs.declared.placing.Fit.{Fit}
use Rattle.ref_search.specs.declared.wanted.Wanted.{Wanted}
use Rattle.ref_search.specs.Completing.{use_of}
use Rattle.ref_search.specs.Fitting.{IsFitting, FitsBelow, AreFittingAmong, put_if, put_label, NumbersRise, AreAllBelow, AreAnswer}
use Rattle.ref_search.specs.Placing.{IsClosed, orders_of}
use Rattle.ref_search.specs.Searching.{book, FitsLabel, NoFit, IsLabelFit, RiseFrom, ForEachText, head_of}
use Rattle.ref_search.specs.Wholes.{IsAllowed, IsWantedBy, places_at}
use Rattle.ref_search.proofs.Lists.{same_number}
use Rattle.ref_search.proofs.FitLaws.{range_count}
use Rattle.ref_search.proofs.LabelLaws.{IsOrder, all_orders, some_is_some, none_is_none}
use Rattle.ref_search.proofs.SearchLaws.{label_stands}
use Rattle.ref_search.proofs.ChoiceLaws.{orders_same, as_many, to_use, from_use}

-- ---- one that is found, or none

module _ {X : Type 0} (P : X → Type 0) where
  found_among : (xs : List X) (x : X) → IsFirstOrNone P xs (Some x) → Contains xs x
  found_among [] x h = absurd (cc)
  found_among (y ∷ ys) x (inl h) = first x y ys (sym (some_is_some (Some x) x y refl h.0))
  found_among (y ∷ ys) x (inr h) = later x y ys (found_among ys x h.1)

  found_has : (xs : List X) (x : X) → IsFirstOrNone P xs (Some x) → P x
  found_has [] x h = absurd (cc)
  found_has (y ∷ ys) x (inl h) = subst P (sym (some_is_some (Some x) x y refl h.0)) h.1
  found_has (y ∷ ys) x (inr h) = found_has ys x h.1

  none_among : (xs : List X) (x : X) → IsFirstOrNone P xs None → Contains xs x → P x → ⊥
  none_among [] x h c p = nothing x c
  none_among (y ∷ ys) x (inl h) c p = absurd (cc)
  none_among (y ∷ ys) x (inr h) c p = elim (parted x y ys c) [ inl e ↦ h.0 (subst P (sym e) p) | inr d ↦ none_among ys x h.1 d p ]

  of_all : (xs : List X) (x : X) → AllByRecursion P xs → Contains xs x → P x
  of_all [] x h c = absurd (nothing x c)
  of_all (y ∷ ys) x h c = elim (parted x y ys c) [ inl e ↦ subst P e h.0 | inr d ↦ of_all ys x h.1 d ]

mapped_from : {X Y : Type 0} (f : X → Y) (xs : List X) (y : Y) → Contains (map f xs) y → (x : X) × Contains xs x × (f x ≡ y)
mapped_from f [] y c = absurd (nothing y c)
mapped_from f (x ∷ xs) y c = elim (parted y (f x) (map f xs) c) [
  | inl e ↦ (x, first x x xs refl, e)
  | inr d ↦ let rest = mapped_from f xs y d in (rest.0, later rest.0 x xs rest.1, rest.2)
]

mapped_to : {X Y : Type 0} (f : X → Y) (xs : List X) (x : X) → Contains xs x → Contains (map f xs) (f x)
mapped_to f [] x c = absurd (nothing x c)
mapped_to f (z ∷ xs) x c = elim (parted x z xs c) [ inl e ↦ first (f x) (f z) (map f xs) (ap f e) | inr d ↦ later (f x) (f z) (map f xs) (mapped_to f xs x d) ]

pub fitting_of_fit : (db : Database) (given : Option (List Pair)) (w : Wanted) (l : Label) (o : Option Fit) → IsLabelFit db given w l o → IsFitting db given w l (is_some o)
fitting_of_fit db given w l None h = h.first
fitting_of_fit db given w l (Some f) h = record {
  order = f.order;
  among = found_among (FitsLabel db given w l) (orders_of (length w.hyps)) f.order h.first;
  fits = found_has (FitsLabel db given w l) (orders_of (length w.hyps)) f.order h.first;
}

-- ---- those with a property

module _ {X : Type 0} (P : X → Type 0) where
  pub one_more : (xs vs : List X) (y : X) → AreThoseWith P xs vs → P y → AreThoseWith P (xs ++ y ∷ []) (vs ++ y ∷ [])
  one_more [] vs y h p = inl ([], ap (λ l. l ++ y ∷ []) h, p, refl)
  one_more (x ∷ xs) vs y (inl h) p = inl (h.0 ++ y ∷ [], ap (λ l. l ++ y ∷ []) h.1, h.2, one_more xs h.0 y h.3 p)
  one_more (x ∷ xs) vs y (inr h) p = inr (h.0, one_more xs vs y h.1 p)

  pub none_more : (xs vs : List X) (y : X) → AreThoseWith P xs vs → (P y → ⊥) → AreThoseWith P (xs ++ y ∷ []) vs
  none_more [] vs y h n = inr (n, h)
  none_more (x ∷ xs) vs y (inl h) n = inl (h.0, h.1, h.2, none_more xs h.0 y h.3 n)
  none_more (x ∷ xs) vs y (inr h) n = inr (h.0, none_more xs vs y h.1 n)

  none_there : (xs : List X) → AllByRecursion (λ x. P x → ⊥) xs → AreThoseWith P xs []
  none_there [] h = refl
  none_there (x ∷ xs) h = inr (h.0, none_there xs h.1)

  front_only : (xs vs : List X) (i : ℕ) → AreThoseWith P (take i xs) vs → AllByRecursion (λ x. P x → ⊥) (drop i xs) → AreThoseWith P xs vs
  front_only [] vs zero h n = h
  front_only [] vs (suc i) h n = h
  front_only (x ∷ xs) vs zero h n = subst (AreThoseWith P (x ∷ xs)) (sym h) (none_there (x ∷ xs) n)
  front_only (x ∷ xs) vs (suc i) (inl h) n = inl (h.0, h.1, h.2, front_only xs h.0 i h.3 n)
  front_only (x ∷ xs) vs (suc i) (inr h) n = inr (h.0, front_only xs vs i h.1 n)

  all_with : (xs vs : List X) → AreThoseWith P xs vs → AllByRecursion P vs
  all_with [] vs h = subst (AllByRecursion P) (sym h) tt
  all_with (x ∷ xs) vs (inl h) = subst (AllByRecursion P) (sym h.1) (h.2, all_with xs h.0 h.3)
  all_with (x ∷ xs) vs (inr h) = all_with xs vs h.1

  none_lost : (xs vs : List X) → AreThoseWith P xs vs → AllByRecursion (λ x. P x → Contains vs x) xs
  none_lost [] vs h = tt
  none_lost (x ∷ xs) vs (inl h) =
      let rest = weaker (λ y. P y → Contains h.0 y) (λ y. P y → Contains vs y) (λ y f p. subst (λ l. Contains l y) (sym h.1) (later y x h.0 (f p))) xs (none_lost xs h.0 h.3) in
      (λ p. subst (λ l. Contains l x) (sym h.1) (first x x h.0 refl), rest)
    where
      weaker : {X : Type 0} (Q R : X → Type 0) → ((x : X) → Q x → R x) → (xs : List X) → AllByRecursion Q xs → AllByRecursion R xs
      weaker Q R f [] h = tt
      weaker Q R f (x ∷ xs) h = (f x h.0, weaker Q R f xs h.1)
  none_lost (x ∷ xs) vs (inr h) = (λ p. absurd (h.0 p), none_lost xs vs h.1)

-- ---- the loop over labels

none_from : (bound low : ℕ) (ls : List Label) (db : Database) (given : Option (List Pair)) (w : Wanted) → bound ≤ low → RiseFrom low ls → AllByRecursion (λ l. FitsBelow db given w bound l → ⊥) ls
none_from bound low [] db given w h r = tt
none_from bound low (l ∷ ls) db given w h r = (λ p. let below = p.below in omega (arith, below, h, r.0), none_from bound (l.0 + 1) ls db given w (omega (arith, h, r.0)) r.1)

rest_rises : (low : ℕ) (ls : List Label) (i : ℕ) (d : Label) → RiseFrom low ls → i < length ls → RiseFrom (get_or ls i d).0 (drop i ls)
rest_rises low [] i d r h = absurd (omega arith)
rest_rises low (l ∷ ls) zero d r h = (omega arith, r.1)
rest_rises low (l ∷ ls) (suc i) d r h = rest_rises (l.0 + 1) ls i d r.1 (omega arith)

nothing_left : (i : ℕ) (ls : List Label) (Q : Label → Type 0) → length ls ≤ i → AllByRecursion Q (drop i ls)
nothing_left zero [] Q h = tt
nothing_left (suc i) [] Q h = tt
nothing_left zero (l ∷ ls) Q h = absurd (omega arith)
nothing_left (suc i) (l ∷ ls) Q h = nothing_left i ls Q (omega arith)

front_more : (ls : List Label) (i : ℕ) (d : Label) → i < length ls → take (i + 1) ls ≡ take i ls ++ get_or ls i d ∷ []
front_more ls i d h = rw add-one (by ls i h)
  where
    by : (ls : List Label) (i : ℕ) → i < length ls → take (suc i) ls ≡ take i ls ++ get_or ls i d ∷ []
    by [] i h = absurd (omega arith)
    by (l ∷ ls) zero h = refl
    by (l ∷ ls) (suc i) h = ap (λ (xs : List Label). l ∷ xs) (by ls i (omega arith))

module _ (db : Database) (given : Option (List Pair)) (w : Wanted) (bound : ℕ) (labels : List Label) (i : ℕ) (d : Label) (found : List Label)
    (so_far : AreFittingAmong db given w bound (take i labels) found) where
  pub stopped_at : RiseFrom 0 labels → i < length labels → bound ≤ (get_or labels i d).0 → AreFittingAmong db given w bound labels found
  stopped_at r h b = record {
    those = front_only (FitsBelow db given w bound) labels found i so_far.those (none_from bound (get_or labels i d).0 (drop i labels) db given w b (rest_rises 0 labels i d r h));
  }

  pub ended : length labels ≤ i → AreFittingAmong db given w bound labels found
  ended h = record { those = front_only (FitsBelow db given w bound) labels found i so_far.those (nothing_left i labels (λ l. FitsBelow db given w bound l → ⊥) h) }

  no_longer : (l : Label) → NoFit db given w l → FitsBelow db given w bound l → ⊥
  no_longer l n p = let does = p.does in none_among (FitsLabel db given w l) (orders_of (length w.hyps)) does.order n does.among does.fits

  pub label_looked_at : i < length labels → (get_or labels i d).0 < bound → (fits : Bool) → IsFitting db given w (get_or labels i d) fits
      → (new : List Label) → new ≡ put_if fits found (get_or labels i d)
      → AreFittingAmong db given w bound (take (i + 1) labels) new
  label_looked_at h b fits is new e = record {
    those = subst (λ (xs : List Label). AreThoseWith (FitsBelow db given w bound) xs new) (sym (front_more labels i d h))
        (subst (AreThoseWith (FitsBelow db given w bound) (take i labels ++ get_or labels i d ∷ [])) (sym e) (by fits is));
  }
    where
      by : (fits : Bool) → IsFitting db given w (get_or labels i d) fits → AreThoseWith (FitsBelow db given w bound) (take i labels ++ get_or labels i d ∷ []) (put_if fits found (get_or labels i d))
      by true is = one_more (FitsBelow db given w bound) (take i labels) found (get_or labels i d) so_far.those (record { below = b; does = is })
      by false is = none_more (FitsBelow db given w bound) (take i labels) found (get_or labels i d) so_far.those (no_longer (get_or labels i d) is)

-- ---- a set of numbers

insert_rises : (k low : ℕ) (ns : List ℕ) → low ≤ k → NumbersRise low ns → NumbersRise low (insert_key nat_cmp ns k)
insert_rises k low [] h r = (h, tt)
insert_rises k low (x ∷ xs) h r = elim (cases_order k x) [
  | inl e ↦ rw (no_self k x e, is_equal k x e) r
  | inr o ↦ elim o [
    | inl l ↦ rw (is_less k x l) (h, (omega (arith, l), r.1))
    | inr g ↦ rw (no_less k x g, differs_above k x g) (r.0, insert_rises k (x + 1) xs (omega (arith, g)) r.1)
  ]
]

insert_all : (P : ℕ → Type 0) (k : ℕ) (ns : List ℕ) → P k → AllByRecursion P ns → AllByRecursion P (insert_key nat_cmp ns k)
insert_all P k [] p h = (p, tt)
insert_all P k (x ∷ xs) p h = elim (cases_order k x) [
  | inl e ↦ rw (no_self k x e, is_equal k x e) h
  | inr o ↦ elim o [
    | inl l ↦ rw (is_less k x l) (p, h)
    | inr g ↦ rw (no_less k x g, differs_above k x g) (h.0, insert_all P k xs p h.1)
  ]
]

insert_has : (k : ℕ) (ns : List ℕ) → Contains (insert_key nat_cmp ns k) k
insert_has k [] = first k k [] refl
insert_has k (x ∷ xs) = elim (cases_order k x) [
  | inl e ↦ rw (no_self k x e, is_equal k x e) (first k x xs (sym e))
  | inr o ↦ elim o [
    | inl l ↦ rw (is_less k x l) (first k k (x ∷ xs) refl)
    | inr g ↦ rw (no_less k x g, differs_above k x g) (later k x (insert_key nat_cmp xs k) (insert_has k xs))
  ]
]

insert_keeps : (k n : ℕ) (ns : List ℕ) → Contains ns n → Contains (insert_key nat_cmp ns k) n
insert_keeps k n [] c = absurd (nothing n c)
insert_keeps k n (x ∷ xs) c = elim (cases_order k x) [
  | inl e ↦ rw (no_self k x e, is_equal k x e) c
  | inr o ↦ elim o [
    | inl l ↦ rw (is_less k x l) (later n k (x ∷ xs) c)
    | inr g ↦ rw (no_less k x g, differs_above k x g) (elim (parted n x xs c) [
      | inl e ↦ first n x (insert_key nat_cmp xs k) e
      | inr d ↦ later n x (insert_key nat_cmp xs k) (insert_keeps k n xs d)
    ])
  ]
]

labels_rise : (ls : List Label) (ns : List ℕ) → NumbersRise 0 ns → NumbersRise 0 (fold put_label ns ls)
labels_rise [] ns r = r
labels_rise (l ∷ ls) ns r = labels_rise ls (put_label ns l) (insert_rises l.0 0 ns (omega arith) r)

labels_all : (P : Label → Type 0) (ls : List Label) (ns : List ℕ) → AllByRecursion P ls → AllByRecursion (λ n. P (label n)) ns → AllByRecursion (λ n. P (label n)) (fold put_label ns ls)
labels_all P [] ns h k = k
labels_all P (l ∷ ls) ns h k = labels_all P ls (put_label ns l) h.1 (insert_all (λ n. P (label n)) l.0 ns h.0 k)

labels_keep : (n : ℕ) (ls : List Label) (ns : List ℕ) → Contains ns n → Contains (fold put_label ns ls) n
labels_keep n [] ns c = c
labels_keep n (l ∷ ls) ns c = labels_keep n ls (put_label ns l) (insert_keeps l.0 n ns c)

labels_have : (l : Label) (ls : List Label) (ns : List ℕ) → Contains ls l → Contains (fold put_label ns ls) l.0
labels_have l [] ns c = absurd (nothing l c)
labels_have l (k ∷ ls) ns c = elim (parted l k ls c) [
  | inl e ↦ subst (λ (j : Label). Contains (fold put_label ns (k ∷ ls)) j.0) e (labels_keep k.0 ls (put_label ns k) (insert_has k.0 ns))
  | inr d ↦ labels_have l ls (put_label ns k) d
]

pub numbers_of : (new old was : List ℕ) (ls all : List Label) → new ≡ fold put_label old ls → old ≡ was → ls ≡ all → new ≡ fold put_label was all
numbers_of new old was ls all e f g = e ∙ ap (λ (ns : List ℕ). fold put_label ns ls) f ∙ ap (fold put_label was) g

-- ---- both heads

module _ (kinds : Kinds) (text : List ℕ) (d : Opened) (given : Option (List Pair)) (w : Wanted) (closed : IsClosed w) (bound : ℕ) (early : List Label)
    (are_early : AreFittingAmong (book kinds text d) given w bound (by_head d.parsed None (length w.hyps)) early) where
  Below : Label → Type 0
  Below = FitsBelow (book kinds text d) given w bound

  module _ (late : List Label) (each : AllByRecursion (FitsBelow (book kinds text d) given w bound) late)
      (none_lost_late : (h : Label) → head_of w.formula ≡ Some h → AllByRecursion (λ l. FitsBelow (book kinds text d) given w bound l → Contains late l) (by_head d.parsed (Some h) (length w.hyps)))
      (numbers : List ℕ) (numbers_are : numbers ≡ fold put_label (fold put_label [] early) late) where
    In : Label → Type 0
    In l = FitsBelow (book kinds text d) given w bound l → Contains (fold put_label (fold put_label [] early) late) l.0

    weaker : {X : Type 0} (Q R : X → Type 0) → ((x : X) → Q x → R x) → (xs : List X) → AllByRecursion Q xs → AllByRecursion R xs
    weaker Q R f [] h = tt
    weaker Q R f (x ∷ xs) h = (f x h.0, weaker Q R f xs h.1)

    all_in : (l : Label) → NoFit (book kinds text d) given w l ⊎ In l
    unfolding In
    all_in =
        label_stands kinds text d given w closed In
        (weaker (λ l. FitsBelow (book kinds text d) given w bound l → Contains early l) In (λ l f p. labels_keep l.0 late (fold put_label [] early) (labels_have l early [] (f p)))
        (by_head d.parsed None (length w.hyps)) (none_lost (FitsBelow (book kinds text d) given w bound) (by_head d.parsed None (length w.hyps)) early are_early.those))
        (λ h e. weaker (λ l. FitsBelow (book kinds text d) given w bound l → Contains late l) In (λ l f p. labels_have l late (fold put_label [] early) (f p))
        (by_head d.parsed (Some h) (length w.hyps)) (none_lost_late h e))

    no_longer_in : (l : Label) → NoFit (book kinds text d) given w l ⊎ In l → FitsBelow (book kinds text d) given w bound l → Contains (fold put_label (fold put_label [] early) late) l.0
    unfolding In
    no_longer_in l (inl n) p =
        let does = p.does in absurd (none_among (FitsLabel (book kinds text d) given w l) (orders_of (length w.hyps)) does.order n does.among does.fits)
    no_longer_in l (inr f) p = f p

    pub all_below : AreAllBelow (book kinds text d) given w bound numbers
    all_below =
        subst (AreAllBelow (book kinds text d) given w bound) (sym numbers_are) (record {
          rise = labels_rise late (fold put_label [] early) (labels_rise early [] tt);
          each = labels_all (FitsBelow (book kinds text d) given w bound) late (fold put_label [] early) each
              (labels_all (FitsBelow (book kinds text d) given w bound) early []
              (all_with (FitsBelow (book kinds text d) given w bound) (by_head d.parsed None (length w.hyps)) early are_early.those) tt);
          none_left_out = λ n p. no_longer_in (label n) (all_in (label n)) p;
        })

  pub early_all : head_of w.formula ≡ None → (numbers : List ℕ) → numbers ≡ fold put_label [] early → AreAllBelow (book kinds text d) given w bound numbers
  early_all e numbers is = all_below [] tt (λ h f. absurd (none_is_none (head_of w.formula) h e f)) numbers is

  pub both_all : (h : Label) → head_of w.formula ≡ Some h → (late : List Label) → AreFittingAmong (book kinds text d) given w bound (by_head d.parsed (Some h) (length w.hyps)) late
      → (numbers : List ℕ) → numbers ≡ fold put_label (fold put_label [] early) late → AreAllBelow (book kinds text d) given w bound numbers
  both_all h e late are_late numbers is =
      all_below late (all_with (FitsBelow (book kinds text d) given w bound) (by_head d.parsed (Some h) (length w.hyps)) late are_late.those)
      (λ m f. subst (λ x. AllByRecursion (λ l. FitsBelow (book kinds text d) given w bound l → Contains late l) (by_head d.parsed (Some x) (length w.hyps))) (some_is_some (head_of w.formula) h m e f)
      (none_lost (FitsBelow (book kinds text d) given w bound) (by_head d.parsed (Some h) (length w.hyps)) late are_late.those)) numbers is

-- ---- all labels of the database

least : (low n : ℕ) (ns : List ℕ) → NumbersRise low ns → Contains ns n → low ≤ n
least low n [] r c = absurd (nothing n c)
least low n (x ∷ xs) r c = elim (parted n x xs c) [
  | inl e ↦ subst (λ (k : ℕ). low ≤ k) e r.0
  | inr d ↦ let more = least (x + 1) n xs r.1 d in omega (arith, more, r.0)
]

module _ (P : Label → Type 0) where
  those_in_range : (a m : ℕ) (ns : List ℕ) → NumbersRise a ns → AllByRecursion (λ n. n < a + m) ns → AllByRecursion (λ n. P (label n)) ns
      → ((n : ℕ) → a ≤ n → n < a + m → P (label n) → Contains ns n)
      → AreThoseWith P (map label (range_with_len a m)) (map label ns)
  those_in_range a zero [] r u p c = refl
  those_in_range a zero (n ∷ ns) r u p c = absurd (omega (arith, r.0, u.0))
  those_in_range a (suc m) [] r u p c =
      inr (λ q. nothing a (c a (omega arith) (omega arith) q), those_in_range (a + 1) m [] tt tt tt (λ n l b q. c n (omega (arith, l)) (omega (arith, b)) q))
  those_in_range a (suc m) (n ∷ ns) r u p c = elim (cases_Bool (a == n)) [
    | inl is ↦
        let same : a ≡ n = same_number a n is in
        let rest : NumbersRise (a + 1) ns = subst (λ (k : ℕ). NumbersRise (k + 1) ns) (sym same) r.1 in
        inl (
          map label ns,
          ap (λ (k : ℕ). label k ∷ map label ns) (sym same),
          subst (λ (k : ℕ). P (label k)) (sym same) p.0,
          those_in_range (a + 1) m ns rest (bounds ns u.1) p.1
              (λ k l b q. elim (parted k n ns (c k (omega (arith, l)) (omega (arith, b)) q)) [ inl e ↦ absurd (omega (arith, e, l, same)) | inr d ↦ d ]),
        )
    | inr not ↦
        let more : a + 1 ≤ n = grind (arith, nat_tests, not, r.0) in
        inr (
          λ q. let past = least n a (n ∷ ns) (omega arith, r.1) (c a (omega arith) (omega arith) q) in absurd (omega (arith, past, more)),
          those_in_range (a + 1) m (n ∷ ns) (more, r.1) (bounds (n ∷ ns) u) p (λ k l b q. c k (omega (arith, l)) (omega (arith, b)) q),
        )
  ]
    where
      bounds : (ks : List ℕ) → AllByRecursion (λ k. k < a + suc m) ks → AllByRecursion (λ k. k < (a + 1) + m) ks
      bounds [] h = tt
      bounds (k ∷ ks) h = (let x = h.0 in omega (arith, x), bounds ks h.1)

module _ (db : Database) (place : ℕ) (mode : DvMode) (pairs : List Pair) (es : List WrittenStep) (e : WrittenStep) (w : Wanted)
    (allowed : Option (List Pair)) (is_allowed : IsAllowed mode pairs allowed)
    (wanted : IsWantedBy es e w) (bound : ℕ) (within : bound ≤ length db.labels) (before : (l : ℕ) → l < length db.labels → (l < bound) ↔ (position_of db (label l) < place)) where
  orders_wanted : search_orders e ≡ map (places_at e) (orders_of (length w.hyps))
  orders_wanted = orders_same e ∙ ap (λ n. map (places_at e) (orders_of n)) (as_many db place mode pairs es e w allowed is_allowed wanted)

  in_some : (n : ℕ) → FitsBelow db allowed w bound (label n) → FitsInSomeOrder db place mode pairs es e (label n)
  in_some n p =
      let does = p.does in
      let below = p.below in
      let order = of_all (IsOrder (length w.hyps) (length w.hyps)) (orders_of (length w.hyps)) does.order (all_orders (length w.hyps)) does.among in
      let fits = does.fits in (
        places_at e does.order,
        subst (λ (gs : List (List Given)). Contains gs (places_at e does.order)) (sym orders_wanted) (mapped_to (places_at e) (orders_of (length w.hyps)) does.order does.among),
        (
          use_of fits.0 fits.1,
          to_use db place mode pairs es e w allowed is_allowed wanted (label n) does.order order ((before n (omega (arith, below, within))).0 below) fits.0 fits.1 fits.2,
        ),
      )

  from_some : (n : ℕ) → n < length db.labels → FitsInSomeOrder db place mode pairs es e (label n) → FitsBelow db allowed w bound (label n)
  from_some n l p =
      let r = mapped_from (places_at e) (orders_of (length w.hyps)) p.0 (subst (λ (gs : List (List Given)). Contains gs p.0) orders_wanted p.1) in
      let order = of_all (IsOrder (length w.hyps) (length w.hyps)) (orders_of (length w.hyps)) r.0 (all_orders (length w.hyps)) r.1 in
      let fits = subst (λ (gs : List Given). Fits db place mode pairs es e (record { label = label n; places = gs })) (sym r.2) p.2 in
      record {
        below = (before n l).1 fits.1.earlier;
        does = record { order = r.0; among = r.1; fits = from_use db place mode pairs es e w allowed is_allowed wanted (label n) r.0 order fits.0 fits.1 };
      }

  all_weaker : (Q R : ℕ → Type 0) → ((n : ℕ) → Q n → R n) → (ns : List ℕ) → AllByRecursion Q ns → AllByRecursion R ns
  all_weaker Q R f [] h = tt
  all_weaker Q R f (n ∷ ns) h = (f n h.0, all_weaker Q R f ns h.1)

  pub all_answered : (numbers : List ℕ) → AreAllBelow db allowed w bound numbers → AreThoseWith (FitsInSomeOrder db place mode pairs es e) (all_labels db) (map label numbers)
  all_answered numbers h =
      those_in_range (FitsInSomeOrder db place mode pairs es e) 0 (length db.labels) numbers h.rise
      (all_weaker (λ n. FitsBelow db allowed w bound (label n)) (λ n. n < 0 + length db.labels) (λ n p. let below = p.below in omega (arith, below, within)) numbers h.each)
      (all_weaker (λ n. FitsBelow db allowed w bound (label n)) (λ n. FitsInSomeOrder db place mode pairs es e (label n)) in_some numbers h.each)
      (λ n l b p. h.none_left_out n (from_some n (omega (arith, b)) p))

-- ---- what the calls say, put together

pub those_of : (d : Opened) (given : Option (List Pair)) (w : Wanted) (bound : ℕ) (ls all : List Label) (r : Result (List Label) Memory) → ls ≡ all
    → IfOk r (λ v. ForEachText d (λ b. AreFittingAmong b given w bound ls v)) → IfOk r (λ v. ForEachText d (λ b. AreFittingAmong b given w bound all v))
those_of d given w bound ls all r e h = subst (λ xs. IfOk r (λ v. ForEachText d (λ b. AreFittingAmong b given w bound xs v))) e h

pub answer_of_all : (d : Opened) (place bound : ℕ) (w : Wanted) (allowed : Option (List Pair)) → bound ≡ labels_before d place
    → ((l : ℕ) → l < length d.contents.labels → (l < bound) ↔ (slice_index_or d.contents.positions l 0 < place)) → (numbers : List ℕ)
    → ForEachText d (λ b. AreAllBelow b allowed w bound numbers) → (ls : List Label) → ls ≡ map label numbers → AreAnswer d place w allowed ls
answer_of_all d place bound w allowed count before numbers h ls is = subst (AreAnswer d place w allowed) (sym is) (λ kinds text mode pairs es e opened is_allowed wanted.
    let labels = ap (λ (c : Contents). length c.labels) opened.contents in
    let most : bound ≤ length (book kinds text d).labels =
    let less = count_by-le-length (λ l. nat_lt (slice_index_or d.contents.positions l 0) place) (range_with_len 0 (length d.contents.labels)) in
    let many = range_count 0 (length d.contents.labels) in
    omega (arith, count, less, many, labels) in
    all_answered (book kinds text d) place mode pairs es e w allowed is_allowed wanted bound most
    (λ l k.
    let both = before l (omega (arith, k, labels)) in (
      λ x. subst (λ (c : Contents). slice_index_or c.positions l 0 < place) opened.contents (both.0 x),
      λ x. both.1 (subst (λ (c : Contents). slice_index_or c.positions l 0 < place) (sym opened.contents) x),
    ))
    numbers (h kinds text opened))
