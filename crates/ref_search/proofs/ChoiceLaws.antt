-- The first label that fits, with its first order, among all labels with all orders of a step's places.
use Rattle.std.proofs.Common.{◌≡◌, ◌↔◌, ℕ, zero, suc, ◌+◌, ◌<◌, ◌≤◌, ◌==◌, ◌&&◌, Bool, true, false, List, [], ◌∷◌, ◌++◌, length, map, get_or, nat_le}
use Rattle.std.proofs.Common.{nat_lt, if◌then◌else◌, Option, Some, None, option_map, refl, sym, ap, subst, ◌∙◌, inl, inr, arith, Result, Ok, Err}
use Rattle.std.proofs.Common.{IfOk}
use Rattle.std.proofs.lemmas.Bool.{cases_Bool}
use Rattle.std.proofs.lemmas.Bool.Decides.{nat_tests}
use Rattle.std.proofs.lemmas.List.{length-map, get_or-map, map-append}
use Rattle.std.proofs.lemmas.List.Sums.{count_by-le-length}
use Rattle.std.specs.List.{AllByRecursion, AllZip, flat_map, range_with_len, slice_index_or}
use Rattle.mm_base.specs.declared.errors.Memory.{Memory}
use Rattle.mm_base.specs.declared.symbols.Label.{Label}
use Rattle.mm_base.specs.declared.symbols.Pair.{Pair}
use Rattle.mm_base.specs.declared.tree.Tree.{Tree}
use Rattle.mm_model.specs.Names.{label}
use Rattle.mm_model.specs.Book.{Database, Assertion, position_of}
use Rattle.mm_frames.specs.Contents.{Contents}
use Rattle.sheet_text.specs.declared.sheet.Given.{Given}
use Rattle.sheet_text.specs.declared.sheet.Given.TheVariants as given
use Rattle.solve_model.specs.Firsts.{IsFirstOrNone, picks, orders}
use Rattle.written_model.specs.declared.options.DvMode.{DvMode}
use Rattle.written_model.specs.declared.options.DvMode.TheVariants as dv
use Rattle.written_model.specs.WrittenSteps.{Use, WrittenStep, place_tree, value_of, no_tree}
use Rattle.written_model.specs.Pairs.{lack_of}
use Rattle.written_model.specs.Found.{Choice, search_orders, FitsUse, Fits}
use Rattle.mm_database.specs.Opened.{Opened, labels_before}
use Rattle.ref_search.specs.declared.wanted.Wanted.{Wanted}
use Rattle.ref_search.specs.declared.wanted.Found.{Found}
use Rattle.ref_search.specs.Matching.{valued_by}
use Rattle.ref_search.specs.Completing.{lack_in, use_of}
use Rattle.ref_search.specs.Placing.{trees_at, orders_of}
use Rattle.ref_search.specs.Searching.{book, FitsAs, FitsLabel, IsFirstBelow, ForEachText, HasFound, IsSoundBelow}
use Rattle.ref_search.specs.Wholes.{IsWantedBy, IsAllowed, places_at, choice_of, IsFoundFor, IsAnswer}
use Rattle.ref_search.proofs.Lists.{same_number}
use Rattle.ref_search.proofs.PlaceLaws.{append_none, append_some, all_none, cons_head, cons_tail}
use Rattle.ref_search.proofs.FitLaws.{at_range, range_count}
use Rattle.ref_search.proofs.LabelLaws.{IsOrder, all_orders, some_is_some}

-- ---- orders of a list that is mapped

map_twice : {X Y Z : Type 0} (g : Y → Z) (h : X → Y) (xs : List X) → map g (map h xs) ≡ map (λ x. g (h x)) xs
map_twice g h [] = refl
map_twice g h (x ∷ xs) = ap (λ zs. g (h x) ∷ zs) (map_twice g h xs)

flat_of_map : {X Y Z : Type 0} (G : Y → List Z) (h : X → Y) (xs : List X) → flat_map G (map h xs) ≡ flat_map (λ x. G (h x)) xs
flat_of_map G h [] = refl
flat_of_map G h (x ∷ xs) = ap (λ zs. G (h x) ++ zs) (flat_of_map G h xs)

flat_same : {X Z : Type 0} (F G : X → List Z) → ((x : X) → F x ≡ G x) → (xs : List X) → flat_map F xs ≡ flat_map G xs
flat_same F G e [] = refl
flat_same F G e (x ∷ xs) = ap (λ zs. zs ++ flat_map F xs) (e x) ∙ ap (λ zs. G x ++ zs) (flat_same F G e xs)

map_flat : {X Y Z : Type 0} (f : Y → Z) (H : X → List Y) (xs : List X) → flat_map (λ x. map f (H x)) xs ≡ map f (flat_map H xs)
map_flat f H [] = refl
map_flat f H (x ∷ xs) = ap (λ zs. map f (H x) ++ zs) (map_flat f H xs) ∙ sym (map-append f (H x) (flat_map H xs))

module _ {X Y : Type 0} (f : X → Y) where
  picks_map : (xs : List X) → picks (map f xs) ≡ map (λ (p : X × List X). (f p.0, map f p.1)) (picks xs)
  picks_map [] = refl
  picks_map (x ∷ xs) =
      ap (λ (ps : List (Y × List Y)). (f x, map f xs) ∷ map (λ (p : Y × List Y). (p.0, f x ∷ p.1)) ps) (picks_map xs)
      ∙ ap (λ (ps : List (Y × List Y)). (f x, map f xs) ∷ ps)
      (map_twice (λ (p : Y × List Y). (p.0, f x ∷ p.1)) (λ (p : X × List X). (f p.0, map f p.1)) (picks xs)
      ∙ sym (map_twice (λ (p : X × List X). (f p.0, map f p.1)) (λ (p : X × List X). (p.0, x ∷ p.1)) (picks xs)))

  orders_map : (n : ℕ) (xs : List X) → orders n (map f xs) ≡ map (map f) (orders n xs)
  orders_map zero xs = refl
  orders_map (suc n) xs =
      ap (flat_map (λ (p : Y × List Y). map (λ rest. p.0 ∷ rest) (orders n p.1))) (picks_map xs)
      ∙ flat_of_map (λ (p : Y × List Y). map (λ rest. p.0 ∷ rest) (orders n p.1)) (λ (p : X × List X). (f p.0, map f p.1)) (picks xs)
      ∙ flat_same (λ (p : X × List X). map (λ rest. f p.0 ∷ rest) (orders n (map f p.1))) (λ (p : X × List X). map (map f) (map (λ rest. p.0 ∷ rest) (orders n p.1)))
      (λ p. ap (map (λ rest. f p.0 ∷ rest)) (orders_map n p.1) ∙ map_twice (λ rest. f p.0 ∷ rest) (map f) (orders n p.1) ∙ sym (map_twice (map f) (λ rest. p.0 ∷ rest) (orders n p.1))) (picks xs)
      ∙ map_flat (map f) (λ (p : X × List X). map (λ rest. p.0 ∷ rest) (orders n p.1)) (picks xs)

orders_alone : (n : ℕ) → n < 2 → orders n (range_with_len 0 n) ≡ range_with_len 0 n ∷ []
orders_alone zero h = refl
orders_alone (suc zero) h = refl
orders_alone (suc (suc n)) h = absurd (omega arith)

pub orders_same : (e : WrittenStep) → search_orders e ≡ map (places_at e) (orders_of (length e.places))
orders_same e = by (nat_le 2 (length e.places)) (nat_le (length e.places) 6) refl refl
  where
    whole : places_at e (range_with_len 0 (length e.places)) ≡ e.places
    whole = at_range e.places given.Gap (λ k. slice_index_or e.places k given.Gap) 0 (λ k l. ap (λ j. get_or e.places j given.Gap) (let s : 0 + k ≡ k = omega arith in s))

    alone : e.places ∷ [] ≡ map (places_at e) (range_with_len 0 (length e.places) ∷ [])
    alone = ap (λ gs. gs ∷ []) (sym whole)

    by : (b c : Bool) → nat_le 2 (length e.places) ≡ b → nat_le (length e.places) 6 ≡ c
        → (if b && c then orders (length e.places) e.places else e.places ∷ [])
        ≡ map (places_at e) (if c then orders (length e.places) (range_with_len 0 (length e.places)) else range_with_len 0 (length e.places) ∷ [])
    by true true x y =
        ap (orders (length e.places)) (sym whole) ∙ orders_map (λ k. slice_index_or e.places k given.Gap) (length e.places) (range_with_len 0 (length e.places))
    by true false x y = alone
    by false true x y =
        let few : length e.places < 2 = grind (arith, nat_tests, x) in
        alone ∙ ap (map (places_at e)) (sym (orders_alone (length e.places) few))
    by false false x y = alone

-- ---- the first of mapped lists, and of a list of lists

pub first_map_where : {X Y : Type 0} (P : X → Type 0) (Q R : Y → Type 0) (f : Y → X) → ((y : Y) → R y → P (f y) → Q y) → ((y : Y) → R y → Q y → P (f y)) → (ys : List Y) (o : Option Y)
    → AllByRecursion R ys → IsFirstOrNone Q ys o → IsFirstOrNone P (map f ys) (option_map f o)
first_map_where P Q R f there back [] o r h = ap (option_map f) h
first_map_where P Q R f there back (y ∷ ys) o r (inl h) = inl (ap (option_map f) h.0, back y r.0 h.1)
first_map_where P Q R f there back (y ∷ ys) o r (inr h) = inr (λ p. h.0 (there y r.0 p), first_map_where P Q R f there back ys o r.1 h.1)

pub first_is_one : {X : Type 0} (P R : X → Type 0) (xs : List X) (x : X) → AllByRecursion R xs → IsFirstOrNone P xs (Some x) → R x
first_is_one P R [] x r h = absurd (cc)
first_is_one P R (y ∷ ys) x r (inl h) = let same : x ≡ y = cc in subst R (sym same) r.0
first_is_one P R (y ∷ ys) x r (inr h) = first_is_one P R ys x r.1 h.1

module _ {X : Type 0} (P : X → Type 0) (F : ℕ → List X) where
  pub none_range : (a m : ℕ) → ((k : ℕ) → a ≤ k → k < a + m → IsFirstOrNone P (F k) None) → IsFirstOrNone P (flat_map F (range_with_len a m)) None
  none_range a zero h = refl
  none_range a (suc m) h =
      append_none P (F a) (flat_map F (range_with_len (a + 1) m)) None (h a (omega arith) (omega arith)) (none_range (a + 1) m (λ k l u. h k (omega arith) (omega arith)))

  pub some_range : (a m k : ℕ) (x : X) → a ≤ k → k < a + m → ((j : ℕ) → a ≤ j → j < k → IsFirstOrNone P (F j) None) → IsFirstOrNone P (F k) (Some x)
      → IsFirstOrNone P (flat_map F (range_with_len a m)) (Some x)
  some_range a zero k x l u before here = absurd (omega arith)
  some_range a (suc m) k x l u before here = elim (cases_Bool (a == k)) [
    | inl is ↦ append_some P (F a) (flat_map F (range_with_len (a + 1) m)) x (subst (λ j. IsFirstOrNone P (F j) (Some x)) (sym (same_number a k is)) here)
    | inr not ↦
        let less : a + 1 ≤ k = grind (arith, nat_tests, not, l) in
        append_none P (F a) (flat_map F (range_with_len (a + 1) m)) (Some x) (before a (omega arith) (omega (arith, less)))
        (some_range (a + 1) m k x less (omega (arith, u)) (λ j m n. before j (omega arith) n) here)
  ]

abbrev with_places : Label → List Given → Choice
with_places l places = record { label = l; places = places }

abbrev in_order : WrittenStep → Label → List ℕ → Choice
in_order e l r = record { label = l; places = places_at e r }

all_units : {X : Type 0} (xs : List X) → AllByRecursion (λ x. Unit {0}) xs
all_units [] = tt
all_units (x ∷ xs) = (tt, all_units xs)

-- ---- one step

module _ (db : Database) (place : ℕ) (mode : DvMode) (pairs : List Pair) (es : List WrittenStep) (e : WrittenStep) (w : Wanted)
    (allowed : Option (List Pair)) (is_allowed : IsAllowed mode pairs allowed)
    (wanted : IsWantedBy es e w) where
  lack_same : (u : Use) → lack_of mode pairs u ≡ lack_in allowed u
  lack_same u = by mode is_allowed
    where
      by : (m : DvMode) → IsAllowed m pairs allowed → lack_of m pairs u ≡ lack_in allowed u
      by dv.Add h = ap (λ o. lack_in o u) (sym h)
      by dv.Given h = ap (λ o. lack_in o u) (sym h)

  pub as_many : length e.places ≡ length w.hyps
  as_many = sym (length-map e.places (place_tree es)) ∙ ap length wanted.hyps ∙ length-map w.hyps (λ t. Some t)

  place_is : (k : ℕ) → k < length w.hyps → place_tree es (slice_index_or e.places k given.Gap) ≡ Some (slice_index_or w.hyps k no_tree)
  place_is k h =
      sym (get_or-map (place_tree es) e.places k given.Gap None (omega (arith, h, as_many))) ∙ ap (λ os. get_or os k None) wanted.hyps ∙ get_or-map (λ t. Some t) w.hyps k no_tree None h

  to_places : (f : Tree → Tree) (hs : List Tree) (r : List ℕ) → AllByRecursion (λ k. k < length w.hyps) r → map f hs ≡ trees_at w.hyps r
      → AllZip (λ (h : Tree) (g : Given). place_tree es g ≡ Some (f h)) hs (places_at e r)
  to_places f [] [] i h = tt
  to_places f [] (k ∷ r) i h = absurd (cc)
  to_places f (x ∷ hs) [] i h = absurd (cc)
  to_places f (x ∷ hs) (k ∷ r) i h = (
    place_is k i.0 ∙ ap (λ t. Some t) (sym (cons_head (f x) (slice_index_or w.hyps k no_tree) (map f hs) (trees_at w.hyps r) h)),
    to_places f hs r i.1 (cons_tail (f x) (slice_index_or w.hyps k no_tree) (map f hs) (trees_at w.hyps r) h),
  )

  from_places : (f : Tree → Tree) (hs : List Tree) (r : List ℕ) → AllByRecursion (λ k. k < length w.hyps) r → AllZip (λ (h : Tree) (g : Given). place_tree es g ≡ Some (f h)) hs (places_at e r)
      → map f hs ≡ trees_at w.hyps r
  from_places f [] [] i h = refl
  from_places f [] (k ∷ r) i h = absurd h
  from_places f (x ∷ hs) [] i h = absurd h
  from_places f (x ∷ hs) (k ∷ r) i h =
      ap (λ t. t ∷ map f hs) (some_is_some (place_tree es (slice_index_or e.places k given.Gap)) (f x) (slice_index_or w.hyps k no_tree) h.0 (place_is k i.0))
      ∙ ap (λ ts. slice_index_or w.hyps k no_tree ∷ ts) (from_places f hs r i.1 h.1)

  module _ (l : Label) where
    pub to_use : (r : List ℕ) → IsOrder (length w.hyps) (length w.hyps) r → position_of db l < place → (a : Assertion) (values : List Tree) → FitsAs db allowed w l r a values
        → FitsUse db place mode pairs es e (record { label = l; places = places_at e r }) (use_of a values)
    to_use r i before a values h =
        let f = valued_by (value_of (use_of a values)) in
        record {
          is_usable = h.usable;
          earlier = before;
          codes = h.fits.ends.codes;
          conclusion = cons_head (f a.tree) w.formula (map f a.hyps) (trees_at w.hyps r) h.fits.hyps_are ∙ sym wanted.formula;
          hyps = to_places f a.hyps r i.inside (cons_tail (f a.tree) w.formula (map f a.hyps) (trees_at w.hyps r) h.fits.hyps_are);
          no_clash = h.fits.ends.no_clash;
          no_lack = lack_same (use_of a values) ∙ h.fits.ends.no_lack;
        }

    pub from_use : (r : List ℕ) → IsOrder (length w.hyps) (length w.hyps) r → (u : Use) → FitsUse db place mode pairs es e (record { label = l; places = places_at e r }) u
        → FitsLabel db allowed w l r
    from_use r i u h =
        let f = valued_by (value_of u) in (
          u.assertion,
          u.values,
          record {
            usable = h.is_usable;
            fits = record {
              ends = record { agrees = record { each = tt }; codes = h.codes; no_clash = h.no_clash; no_lack = sym (lack_same u) ∙ h.no_lack };
              hyps_are = ap (λ t. t ∷ map f u.assertion.hyps) (h.conclusion ∙ wanted.formula) ∙ ap (λ ts. w.formula ∷ ts) (from_places f u.assertion.hyps r i.inside h.hyps);
            };
          },
        )

    listed_choices : map (with_places l) (search_orders e) ≡ map (in_order e l) (orders_of (length w.hyps))
    listed_choices =
        ap (map (with_places l)) (orders_same e ∙ ap (λ n. map (places_at e) (orders_of n)) as_many)
        ∙ map_twice (with_places l) (places_at e) (orders_of (length w.hyps))

    pub chosen : (o : Option (List ℕ)) → position_of db l < place → IsFirstOrNone (FitsLabel db allowed w l) (orders_of (length w.hyps)) o
        → IsFirstOrNone (Fits db place mode pairs es e) (map (with_places l) (search_orders e)) (option_map (in_order e l) o)
    chosen o before h =
        subst (λ cs. IsFirstOrNone (Fits db place mode pairs es e) cs (option_map (in_order e l) o)) (sym listed_choices)
        (first_map_where (Fits db place mode pairs es e) (FitsLabel db allowed w l) (IsOrder (length w.hyps) (length w.hyps)) (in_order e l)
        (λ r i c. from_use r i c.0 c.1) (λ r i c. (use_of c.0 c.1, to_use r i before c.0 c.1 c.2)) (orders_of (length w.hyps)) o (all_orders (length w.hyps)) h)

    pub not_before : (position_of db l < place → ⊥) → IsFirstOrNone (Fits db place mode pairs es e) (map (with_places l) (search_orders e)) None
    not_before h =
        first_map_where (Fits db place mode pairs es e) (λ places. ⊥) (λ places. Unit {0}) (with_places l) (λ y r c. h c.1.earlier) (λ y r c. absurd c) (search_orders e) None
        (all_units (search_orders e)) (all_none (λ places. ⊥) (λ places c. c) (search_orders e))

  -- ---- all labels

  module _ (bound : ℕ) (within : bound ≤ length db.labels) (first : (l : ℕ) → l < length db.labels → (l < bound) ↔ (position_of db (label l) < place)) where
    pub answered : (o : Option Found) → IsFirstBelow db allowed w bound o → IsFoundFor db place mode pairs es e o
    answered None h = record {
      found = none_range (Fits db place mode pairs es e) (λ n. map (with_places (label n)) (search_orders e)) 0 (length db.labels)
          (λ k l u. elim (cases_Bool (nat_lt k bound)) [
            | inl is ↦ let less : k < bound = grind (arith, nat_tests, is) in chosen (label k) None ((first k (omega (arith, u))).0 less) (h.before (label k) less)
            | inr not ↦ not_before (label k) (λ x. let less = (first k (omega (arith, u))).1 x in let more : bound ≤ k = grind (arith, nat_tests, not) in omega (arith, less, more))
          ]);
      values = tt;
    }
    answered (Some f) h =
        let below = h.found.below in
        let there = (first f.label.0 (omega (arith, below, within))).0 below in
        record {
          found = some_range (Fits db place mode pairs es e) (λ n. map (with_places (label n)) (search_orders e)) 0 (length db.labels) f.label.0 (choice_of e f)
              (omega arith) (omega (arith, below, within))
              (λ j l u. chosen (label j) None ((first j (omega (arith, u, below, within))).0 (omega (arith, u, below))) (h.before (label j) u))
              (chosen f.label (Some f.order) there h.found.fits.first);
          values =
              let a = h.found.fits.values in (
                a.0,
                to_use f.label f.order
                    (first_is_one (FitsLabel db allowed w f.label) (IsOrder (length w.hyps) (length w.hyps)) (orders_of (length w.hyps)) f.order
                    (all_orders (length w.hyps)) h.found.fits.first) there a.0 f.trees a.1,
              );
        }

-- ---- what the calls say, put together

pub answer_of : (d : Opened) (place bound : ℕ) (w : Wanted) (allowed : Option (List Pair)) → bound ≡ labels_before d place
    → ((l : ℕ) → l < length d.contents.labels → (l < bound) ↔ (slice_index_or d.contents.positions l 0 < place)) → (r : Result (Option Found) Memory)
    → IfOk r (λ o. ForEachText d (λ b. IsFirstBelow b allowed w bound o)) → IfOk r (IsAnswer d place w allowed)
answer_of d place bound w allowed count first (Err m) h = h
answer_of d place bound w allowed count first (Ok o) h = λ kinds text mode pairs es e opened is_allowed wanted.
    let labels = ap (λ (c : Contents). length c.labels) opened.contents in
    let most : bound ≤ length (book kinds text d).labels =
    let less = count_by-le-length (λ l. nat_lt (slice_index_or d.contents.positions l 0) place) (range_with_len 0 (length d.contents.labels)) in
    let many = range_count 0 (length d.contents.labels) in
    omega (arith, count, less, many, labels) in
    answered (book kinds text d) place mode pairs es e w allowed is_allowed wanted bound most
    (λ l k.
    let both = first l (omega (arith, k, labels)) in (
      λ x. subst (λ (c : Contents). slice_index_or c.positions l 0 < place) opened.contents (both.0 x),
      λ x. both.1 (subst (λ (c : Contents). slice_index_or c.positions l 0 < place) (sym opened.contents) x),
    ))
    o (h kinds text opened)

-- ---- what is found is sound

raised : (d : Opened) (bound n : ℕ) (o : Option Found) → bound ≤ n → HasFound (IsSoundBelow d bound) o → HasFound (IsSoundBelow d n) o
raised d bound n None l h = tt
raised d bound n (Some f) l h = let below = h.below in record { below = omega (arith, l, below); by = h.by }

pub sound_of : (d : Opened) (place bound : ℕ) → bound ≡ labels_before d place → (o : Option Found) → HasFound (IsSoundBelow d bound) o → HasFound (IsSoundBelow d (length d.contents.labels)) o
sound_of d place bound count o h =
    let less = count_by-le-length (λ l. nat_lt (slice_index_or d.contents.positions l 0) place) (range_with_len 0 (length d.contents.labels)) in
    let many = range_count 0 (length d.contents.labels) in
    raised d bound (length d.contents.labels) o (omega (arith, count, less, many)) h
