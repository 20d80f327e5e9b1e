-- The first assertion and the first tuple that serve a step, among all labels with all tuples.
use Rattle.std.proofs.Common.{◌≡◌, ◌↔◌, ℕ, zero, suc, ◌+◌, ◌<◌, ◌≤◌, ◌==◌, Bool, true, false, cond, List, [], ◌∷◌, ◌++◌, length, map, filter, get_or, nat_lt}
use Rattle.std.proofs.Common.{slice_get, Option, Some, None, option_map, refl, sym, ap, subst, ◌∙◌, ◌⊎◌, inl, inr, arith, Result, Ok, Err, IfOk}
use Rattle.std.proofs.lemmas.Bool.{cases_Bool}
use Rattle.std.proofs.lemmas.Bool.Decides.{nat_tests}
use Rattle.std.proofs.lemmas.List.{length-map, map-id, append-nil}
use Rattle.std.proofs.lemmas.List.FromFn.{filter_of_map_range_with_len_more}
use Rattle.std.proofs.lemmas.List.Sums.{count_by-le-length}
use Rattle.std.proofs.lemmas.Option.{get_or_from_slice_get, slice_get-get_or, slice_get-map, slice_get_within}
use Rattle.std.specs.List.{AllByRecursion, AllZip, flat_map, range_with_len, slice_index_or}
use Rattle.mm_base.specs.declared.errors.Memory.{Memory}
use Rattle.mm_base.specs.declared.kinds.Kinds.{Kinds}
use Rattle.mm_base.specs.declared.symbols.Label.{Label}
use Rattle.mm_base.specs.declared.symbols.Pair.{Pair}
use Rattle.mm_base.specs.declared.tree.Tree.{Tree}
use Rattle.mm_model.specs.Names.{label}
use Rattle.mm_model.specs.Statements.{statements}
use Rattle.mm_model.specs.Frames.{frame_of}
use Rattle.mm_model.specs.Book.{Database, Assertion, position_of}
use Rattle.mm_frames.specs.Contents.{Contents}
use Rattle.mm_database.specs.declared.assertions.Parsed.{Parsed}
use Rattle.mm_database.specs.Books.{parsed_at, usable_with}
use Rattle.mm_database.specs.ByHead.{by_head}
use Rattle.mm_database.specs.Opened.{Opened, labels_before}
use Rattle.sheet_text.specs.declared.sheet.Given.{Given}
use Rattle.sheet_text.specs.declared.sheet.Given.TheVariants as given
use Rattle.solve_model.specs.Firsts.{IsFirstOrNone}
use Rattle.written_model.specs.declared.options.DvMode.{DvMode}
use Rattle.written_model.specs.declared.options.DvMode.TheVariants as dv
use Rattle.written_model.specs.declared.options.Options.{Options}
use Rattle.written_model.specs.Found.{Choice, FitsUse, Fits, is_ground}
use Rattle.written_model.specs.Pairs.{lack_of}
use Rattle.written_model.specs.Written.{Writing}
use Rattle.written_model.specs.WrittenSteps.{Use, WrittenStep, place_tree, value_of, no_tree, steps_in, trees}
use Rattle.auto_model.specs.AutoFilled.{is_ground_number, earlier_steps, tuples, step_tuples, choice_of, auto_choices, IsAutoChoice}
use Rattle.auto_model.specs.declared.auto.Auto.{Auto}
use Rattle.ref_search.specs.declared.wanted.Wanted.{Wanted}
use Rattle.ref_search.specs.Matching.{valued_by, NeverBecomes}
use Rattle.ref_search.specs.Completing.{lack_in, use_of}
use Rattle.ref_search.specs.Placing.{trees_at}
use Rattle.ref_search.specs.Searching.{book, FitsAs, FitsLabel, ForEachText, head_of}
use Rattle.ref_search.specs.Wholes.{IsAllowed}
use Rattle.ref_search.proofs.Lists.{same_number, numbers_differ, all_weaker, all_front}
use Rattle.ref_search.proofs.PlaceLaws.{all_none, cons_head, cons_tail, tree_there}
use Rattle.ref_search.proofs.FitLaws.{in_range, range_count}
use Rattle.ref_search.proofs.LabelLaws.{Standing, at_variable, at_head as at_formula_head, never, standing, some_is_some, none_is_none, usable_none, usable_kept, none_where}
use Rattle.ref_search.proofs.SearchLaws.{stands_there}
use Rattle.ref_search.proofs.ChoiceLaws.{first_map_where, first_is_one, none_range, some_range}
use Rattle.auto_fill.specs.Answers.{IsStepOf, IsFilledBy, IsAnswer}
use Rattle.auto_fill.specs.Labelling.{IsCount, NoTuple, HasAuto, IsSound, IsAutoAt, IsFirstAmong, upto, at_head, of_count, of_counts}
use Rattle.auto_fill.specs.Ready.{IsPlace, ArePlaces, IsReady}
use Rattle.auto_fill.specs.Walking.{wanted_of}
use Rattle.auto_fill.proofs.TupleLaws.{IsTuple, all_tuples, all_both_lists}

-- ---- one to three places

-- as many as a tuple may have, each with a property
pub record IsStepTuple (P : ℕ → Type 0) (xs : List ℕ) : Type 0 where
  pub count : IsCount (length xs)
  pub each : AllByRecursion P xs

module _ (P : ℕ → Type 0) (xs : List ℕ) (all : AllByRecursion P xs) where
  of_many : (n : ℕ) → IsCount n → AllByRecursion (IsStepTuple P) (tuples n xs)
  of_many n c = all_weaker (IsTuple P n) (IsStepTuple P) (λ ys t. record { count = subst IsCount (sym t.count) c; each = t.each }) (tuples n xs) (all_tuples P n xs all)

  all_step_tuples : AllByRecursion (IsStepTuple P) (step_tuples xs)
  all_step_tuples =
      all_both_lists (IsStepTuple P) (tuples 1 xs) (tuples 2 xs ++ (tuples 3 xs ++ [])) (of_many 1 (record { least = omega arith; most = omega arith }))
      (all_both_lists (IsStepTuple P) (tuples 2 xs) (tuples 3 xs ++ []) (of_many 2 (record { least = omega arith; most = omega arith }))
      (all_both_lists (IsStepTuple P) (tuples 3 xs) [] (of_many 3 (record { least = omega arith; most = omega arith })) tt))

all_units : {X : Type 0} (xs : List X) → AllByRecursion (λ x. Unit {0}) xs
all_units [] = tt
all_units (x ∷ xs) = (tt, all_units xs)

all_back : {X : Type 0} (P : X → Type 0) (xs ys : List X) → AllByRecursion P (xs ++ ys) → AllByRecursion P ys
all_back P [] ys h = h
all_back P (x ∷ xs) ys h = all_back P xs ys h.1

-- ---- labels of other assertions do not serve

module _ (kinds : Kinds) (text : List ℕ) (d : Opened) (given : Option (List Pair)) (w : Wanted) (places : List ℕ) (l : Label) where
  nothing_kept : parsed_at d.parsed l ≡ None → NoTuple (book kinds text d) given w places l
  nothing_kept e =
      all_none (FitsLabel (book kinds text d) given w l)
      (λ order c. none_is_none (usable_with d.parsed l (frame_of (statements text) l)) c.0 (usable_none d.parsed l (frame_of (statements text) l) e) c.2.usable) (step_tuples places)

  module _ (p : Parsed) (kept : parsed_at d.parsed l ≡ Some p) where
    fits_kept : (order : List ℕ) (c : FitsLabel (book kinds text d) given w l order)
        → map (valued_by (value_of (use_of c.0 c.1))) (p.tree ∷ p.hyps) ≡ w.formula ∷ trees_at w.hyps order
    fits_kept order c =
        let k = usable_kept d.parsed l (frame_of (statements text) l) p c.0 kept c.2.usable in
        ap (λ (a : Assertion). map (valued_by (value_of (use_of c.0 c.1))) (a.tree ∷ a.hyps)) (sym k.1) ∙ c.2.fits.hyps_are

    never_conclusion : NeverBecomes p.tree w.formula → NoTuple (book kinds text d) given w places l
    never_conclusion n =
        all_none (FitsLabel (book kinds text d) given w l)
        (λ order c.
        let f = valued_by (value_of (use_of c.0 c.1)) in
        n.never (value_of (use_of c.0 c.1)) (cons_head (f p.tree) w.formula (map f p.hyps) (trees_at w.hyps order) (fits_kept order c))) (step_tuples places)

    other_number : (IsCount (length p.hyps) → ⊥) → NoTuple (book kinds text d) given w places l
    other_number n =
        none_where (FitsLabel (book kinds text d) given w l) (IsStepTuple (λ k. Unit {0}))
        (λ order t c.
        let f = valued_by (value_of (use_of c.0 c.1)) in
        let same : length order ≡ length p.hyps =
        sym (length-map order (λ k. get_or w.hyps k no_tree)) ∙ sym (ap length (cons_tail (f p.tree) w.formula (map f p.hyps) (trees_at w.hyps order) (fits_kept order c))) ∙ length-map p.hyps f in
        n (subst IsCount same t.count))
        (step_tuples places) (all_step_tuples (λ k. Unit {0}) places (all_units places))

    -- a label that may serve has what all labels of the variables and of the wanted head have
    module _ (closed : is_ground w.formula ≡ true) (Q : Label → Type 0) where
      stands : (n : ℕ) → AllByRecursion Q (of_count d.parsed w.formula n) → length p.hyps ≡ n → Standing p.tree w.formula → NoTuple (book kinds text d) given w places l ⊎ Q l
      stands n all e (at_variable h) = inr (stands_there Q d.parsed None n l p (all_front Q (by_head d.parsed None n) (at_head d.parsed (head_of w.formula) n) all) kept h e)
      stands n all e (at_formula_head {h = m} is h) =
          inr (stands_there Q d.parsed (Some m) n l p (subst (λ o. AllByRecursion Q (at_head d.parsed o n)) is (all_back Q (by_head d.parsed None n) (at_head d.parsed (head_of w.formula) n) all)) kept h e)
      stands n all e (never h) = inl (never_conclusion h)

      counted : AllByRecursion Q (of_counts d.parsed w.formula) → NoTuple (book kinds text d) given w places l ⊎ Q l
      counted all = elim (cases_Bool (length p.hyps == 1)) [
        | inl is ↦ stands 1 (all_front Q (of 1) (of 2) two) (same_number (length p.hyps) 1 is) (standing w.formula closed p.tree)
        | inr one ↦ elim (cases_Bool (length p.hyps == 2)) [
          | inl is ↦ stands 2 (all_back Q (of 1) (of 2) two) (same_number (length p.hyps) 2 is) (standing w.formula closed p.tree)
          | inr second ↦ elim (cases_Bool (length p.hyps == 3)) [
            | inl is ↦ stands 3 (all_back Q (of 1 ++ of 2) (of 3) all) (same_number (length p.hyps) 3 is) (standing w.formula closed p.tree)
            | inr third ↦ inl (other_number (λ c.
                none_left (length p.hyps) c (numbers_differ (length p.hyps) 1 one) (numbers_differ (length p.hyps) 2 second) (numbers_differ (length p.hyps) 3 third)))
          ]
        ]
      ]
        where
          of : ℕ → List Label
          of n = of_count d.parsed w.formula n

          two : AllByRecursion Q (of_count d.parsed w.formula 1 ++ of_count d.parsed w.formula 2)
          two = all_front Q (of_count d.parsed w.formula 1 ++ of_count d.parsed w.formula 2) (of_count d.parsed w.formula 3) all

          none_left : (n : ℕ) → IsCount n → (n ≡ 1 → ⊥) → (n ≡ 2 → ⊥) → (n ≡ 3 → ⊥) → ⊥
          none_left n c a b d =
              let least = c.least in
              let most = c.most in
              let one : 1 < n = grind (arith, least, a) in
              let two : 2 < n = grind (arith, one, b) in
              d (omega (arith, two, most))

module _ (kinds : Kinds) (text : List ℕ) (d : Opened) (given : Option (List Pair)) (w : Wanted) (closed : is_ground w.formula ≡ true) (places : List ℕ) where
  no_label : (u : ℕ) → AllByRecursion (λ (l : Label). l.0 < u → NoTuple (book kinds text d) given w places l) (of_counts d.parsed w.formula)
      → (l : Label) → l.0 < u → NoTuple (book kinds text d) given w places l
  no_label u all l below = by (parsed_at d.parsed l) refl
    where
      by : (o : Option Parsed) → parsed_at d.parsed l ≡ o → NoTuple (book kinds text d) given w places l
      by None e = nothing_kept kinds text d given w places l e
      by (Some p) e = elim (counted kinds text d given w places l p e closed (λ (l : Label). l.0 < u → NoTuple (book kinds text d) given w places l) all) [ inl none ↦ none | inr none ↦ none below ]

-- ---- the steps by their formulas

trees_count : (es : List WrittenStep) → length (trees es) ≡ length es
trees_count es = length-map es (λ (e : WrittenStep). e.tree)

ground_same : (es : List WrittenStep) (k : ℕ) → k < length es → is_ground_number es k ≡ is_ground (slice_index_or (trees es) k no_tree)
ground_same [] k h = absurd (omega arith)
ground_same (e ∷ es) zero h = refl
ground_same (e ∷ es) (suc k) h = ground_same es k (omega arith)

filter_like : (p q : ℕ → Bool) (xs : List ℕ) → AllByRecursion (λ k. p k ≡ q k) xs → filter p xs ≡ filter q xs
filter_like p q [] h = refl
filter_like p q (x ∷ xs) h = ap (λ b. cond b (x ∷ filter p xs) (filter p xs)) h.0 ∙ ap (λ ys. cond (q x) (x ∷ ys) ys) (filter_like p q xs h.1)

abbrev pub ground_before : List Tree → ℕ → List ℕ
ground_before formulas n = filter (λ k. is_ground (slice_index_or formulas k no_tree)) (range_with_len 0 n)

more_before : (formulas : List Tree) (n : ℕ) → ground_before formulas (n + 1) ≡ ground_before formulas n ++ cond (is_ground (slice_index_or formulas n no_tree)) (n ∷ []) []
more_before formulas n =
    let p = λ (k : ℕ). is_ground (slice_index_or formulas k no_tree) in
    ap (filter p) (sym (map-id (range_with_len 0 (n + 1))))
    ∙ filter_of_map_range_with_len_more p (λ k. k) 0 n n (omega arith)
    ∙ ap (λ ks. filter p ks ++ cond (p n) (n ∷ []) []) (map-id (range_with_len 0 n))

module _ (formulas : List Tree) (n : ℕ) (t : Tree) (inside : n < length formulas) (there : t ≡ get_or formulas n t) (before now : List ℕ) (so_far : before ≡ ground_before formulas n) where
  test_is : (b : Bool) → b ≡ is_ground t → is_ground (slice_index_or formulas n no_tree) ≡ b
  test_is b e = ap is_ground (sym (tree_there formulas n t inside there)) ∙ sym e

  pub one_before : (b : Bool) → b ≡ is_ground t → b ≡ true → now ≡ before ++ n ∷ [] → now ≡ ground_before formulas (n + 1)
  one_before b e is pushed =
      pushed ∙ ap (λ ks. ks ++ n ∷ []) so_far
      ∙ ap (λ b. ground_before formulas n ++ cond b (n ∷ []) []) (sym (test_is b e ∙ is)) ∙ sym (more_before formulas n)

  pub none_before : (b : Bool) → b ≡ is_ground t → b ≡ false → before ≡ ground_before formulas (n + 1)
  none_before b e is =
      so_far ∙ sym (append-nil (ground_before formulas n))
      ∙ ap (λ b. ground_before formulas n ++ cond b (n ∷ []) []) (sym (test_is b e ∙ is)) ∙ sym (more_before formulas n)

-- ---- the steps that may be taken

filter_all : (P : ℕ → Type 0) (p : ℕ → Bool) (xs : List ℕ) → AllByRecursion (λ x. p x ≡ true → P x) xs → AllByRecursion P (filter p xs)
filter_all P p [] h = tt
filter_all P p (x ∷ xs) h = elim (cases_Bool (p x)) [ inl is ↦ rw is (h.0 is, filter_all P p xs h.1) | inr not ↦ rw not (filter_all P p xs h.1) ]

places_before : (formulas : List Tree) (n : ℕ) → n ≤ length formulas → ArePlaces formulas (ground_before formulas n)
places_before formulas n h =
    filter_all (IsPlace formulas) (λ k. is_ground (slice_index_or formulas k no_tree)) (range_with_len 0 n)
    (all_weaker (λ k. k < 0 + n) (λ k. is_ground (slice_index_or formulas k no_tree) ≡ true → IsPlace formulas k) (λ k l e. record { within = omega (arith, h, l); ground = e })
    (range_with_len 0 n) (in_range 0 n))

pub ready_of : (formulas : List Tree) (n : ℕ) (places : List ℕ) → IsPlace formulas n → places ≡ ground_before formulas n → IsReady formulas n places
ready_of formulas n places step e =
    let within = step.within in
    record { step = step; places_are = subst (ArePlaces formulas) (sym e) (places_before formulas n (omega (arith, within))) }

-- ---- one step

flat_of_map : {X Y Z : Type 0} (G : Y → List Z) (h : X → Y) (xs : List X) → flat_map G (map h xs) ≡ flat_map (λ x. G (h x)) xs
flat_of_map G h [] = refl
flat_of_map G h (x ∷ xs) = ap (λ zs. G (h x) ++ zs) (flat_of_map G h xs)

module _ (db : Database) (options : Options) (w : Writing) (k : ℕ) (e : WrittenStep) (place : ℕ) (formulas : List Tree) (allowed : Option (List Pair))
    (of : IsStepOf place allowed formulas k options w e) where
  lack_same : (u : Use) → lack_of options.dv w.bound.pairs u ≡ lack_in allowed u
  lack_same u = by options.dv of.allowed_are
    where
      by : (m : DvMode) → IsAllowed m w.bound.pairs allowed → lack_of m w.bound.pairs u ≡ lack_in allowed u
      by dv.Add h = ap (λ o. lack_in o u) (sym h)
      by dv.Given h = ap (λ o. lack_in o u) (sym h)

  many : length (steps_in w.items) ≡ length formulas
  many = sym (trees_count (steps_in w.items)) ∙ ap length of.formulas_are

  inside : k < length formulas
  inside = let here = slice_get_within (steps_in w.items) k e of.step_is in omega (arith, here, many)

  formula_is : e.tree ≡ slice_index_or formulas k no_tree
  formula_is =
      sym (get_or_from_slice_get (trees (steps_in w.items)) k e.tree no_tree
      (slice_get-map (λ (x : WrittenStep). x.tree) (steps_in w.items) k ∙ ap (option_map (λ (x : WrittenStep). x.tree)) of.step_is))
      ∙ ap (λ ts. slice_index_or ts k no_tree) of.formulas_are

  place_is : (j : ℕ) → j < length formulas → place_tree (steps_in w.items) (given.Step j) ≡ Some (slice_index_or formulas j no_tree)
  place_is j h = ap (λ ts. slice_get ts j) of.formulas_are ∙ slice_get-get_or formulas j no_tree h

  to_places : (f : Tree → Tree) (hs : List Tree) (r : List ℕ) → AllByRecursion (IsPlace formulas) r → map f hs ≡ trees_at formulas r
      → AllZip (λ (h : Tree) (g : Given). place_tree (steps_in w.items) g ≡ Some (f h)) hs (map (λ j. given.Step j) r)
  to_places f [] [] i h = tt
  to_places f [] (j ∷ r) i h = absurd (cc)
  to_places f (x ∷ hs) [] i h = absurd (cc)
  to_places f (x ∷ hs) (j ∷ r) i h = (
    place_is j i.0.within ∙ ap (λ t. Some t) (sym (cons_head (f x) (slice_index_or formulas j no_tree) (map f hs) (trees_at formulas r) h)),
    to_places f hs r i.1 (cons_tail (f x) (slice_index_or formulas j no_tree) (map f hs) (trees_at formulas r) h),
  )

  from_places : (f : Tree → Tree) (hs : List Tree) (r : List ℕ) → AllByRecursion (IsPlace formulas) r
      → AllZip (λ (h : Tree) (g : Given). place_tree (steps_in w.items) g ≡ Some (f h)) hs (map (λ j. given.Step j) r) → map f hs ≡ trees_at formulas r
  from_places f [] [] i h = refl
  from_places f [] (j ∷ r) i h = absurd h
  from_places f (x ∷ hs) [] i h = absurd h
  from_places f (x ∷ hs) (j ∷ r) i h =
      ap (λ t. t ∷ map f hs) (some_is_some (place_tree (steps_in w.items) (given.Step j)) (f x) (slice_index_or formulas j no_tree) h.0 (place_is j i.0.within))
      ∙ ap (λ ts. slice_index_or formulas j no_tree ∷ ts) (from_places f hs r i.1 h.1)

  earlier_same : earlier_steps (steps_in w.items) k ≡ ground_before formulas k
  earlier_same =
      filter_like (is_ground_number (steps_in w.items)) (λ j. is_ground (slice_index_or formulas j no_tree)) (range_with_len 0 k)
      (all_weaker (λ j. j < 0 + k) (λ j. is_ground_number (steps_in w.items) j ≡ is_ground (slice_index_or formulas j no_tree))
      (λ j h. ground_same (steps_in w.items) j (omega (arith, h, inside, many)) ∙ ap (λ ts. is_ground (slice_index_or ts j no_tree)) of.formulas_are)
      (range_with_len 0 k) (in_range 0 k))

  module _ (l : Label) where
    to_use : (r : List ℕ) → AllByRecursion (IsPlace formulas) r → position_of db l < w.bound.place → (a : Assertion) (values : List Tree) → FitsAs db allowed (wanted_of formulas k) l r a values
        → FitsUse db w.bound.place options.dv w.bound.pairs (steps_in w.items) e (choice_of l r) (use_of a values)
    to_use r i before a values h =
        let f = valued_by (value_of (use_of a values)) in
        let formula = slice_index_or formulas k no_tree in
        record {
          is_usable = h.usable;
          earlier = before;
          codes = h.fits.ends.codes;
          conclusion = cons_head (f a.tree) formula (map f a.hyps) (trees_at formulas r) h.fits.hyps_are ∙ sym formula_is;
          hyps = to_places f a.hyps r i (cons_tail (f a.tree) formula (map f a.hyps) (trees_at formulas r) h.fits.hyps_are);
          no_clash = h.fits.ends.no_clash;
          no_lack = lack_same (use_of a values) ∙ h.fits.ends.no_lack;
        }

    from_use : (r : List ℕ) → AllByRecursion (IsPlace formulas) r → (u : Use) → FitsUse db w.bound.place options.dv w.bound.pairs (steps_in w.items) e (choice_of l r) u
        → FitsLabel db allowed (wanted_of formulas k) l r
    from_use r i u h =
        let f = valued_by (value_of u) in (
          u.assertion,
          u.values,
          record {
            usable = h.is_usable;
            fits = record {
              ends = record { agrees = record { each = tt }; codes = h.codes; no_clash = h.no_clash; no_lack = sym (lack_same u) ∙ h.no_lack };
              hyps_are = ap (λ t. t ∷ map f u.assertion.hyps) (h.conclusion ∙ formula_is) ∙ ap (λ ts. slice_index_or formulas k no_tree ∷ ts) (from_places f u.assertion.hyps r i h.hyps);
            };
          },
        )

    tuples_are : AllByRecursion (IsStepTuple (IsPlace formulas)) (step_tuples (ground_before formulas k))
    tuples_are = all_step_tuples (IsPlace formulas) (ground_before formulas k) (places_before formulas k (omega (arith, inside)))

    chosen : (o : Option (List ℕ)) → position_of db l < w.bound.place → IsFirstOrNone (FitsLabel db allowed (wanted_of formulas k) l) (step_tuples (ground_before formulas k)) o
        → IsFirstOrNone (Fits db w.bound.place options.dv w.bound.pairs (steps_in w.items) e) (map (choice_of l) (step_tuples (ground_before formulas k))) (option_map (choice_of l) o)
    chosen o before h =
        first_map_where (Fits db w.bound.place options.dv w.bound.pairs (steps_in w.items) e) (FitsLabel db allowed (wanted_of formulas k) l) (IsStepTuple (IsPlace formulas)) (choice_of l)
        (λ r i c. from_use r i.each c.0 c.1) (λ r i c. (use_of c.0 c.1, to_use r i.each before c.0 c.1 c.2)) (step_tuples (ground_before formulas k)) o tuples_are h

    not_before : (position_of db l < w.bound.place → ⊥)
        → IsFirstOrNone (Fits db w.bound.place options.dv w.bound.pairs (steps_in w.items) e) (map (choice_of l) (step_tuples (ground_before formulas k))) None
    not_before h =
        first_map_where (Fits db w.bound.place options.dv w.bound.pairs (steps_in w.items) e) (λ r. ⊥) (λ r. Unit {0}) (choice_of l) (λ y r c. h c.1.earlier) (λ y r c. absurd c)
        (step_tuples (ground_before formulas k)) None (all_units (step_tuples (ground_before formulas k))) (all_none (λ r. ⊥) (λ r c. c) (step_tuples (ground_before formulas k)))

  -- ---- all labels

  listed : auto_choices db (earlier_steps (steps_in w.items) k) ≡ flat_map (λ n. map (choice_of (label n)) (step_tuples (ground_before formulas k))) (range_with_len 0 (length db.labels))
  listed = ap (auto_choices db) earlier_same ∙ flat_of_map (λ l. map (choice_of l) (step_tuples (ground_before formulas k))) label (range_with_len 0 (length db.labels))

  chosen_of : (o : Option Choice)
      → IsFirstOrNone (Fits db w.bound.place options.dv w.bound.pairs (steps_in w.items) e)
      (flat_map (λ n. map (choice_of (label n)) (step_tuples (ground_before formulas k))) (range_with_len 0 (length db.labels))) o
      → IsAutoChoice db options w k e o
  chosen_of o h = subst (λ cs. IsFirstOrNone (Fits db w.bound.place options.dv w.bound.pairs (steps_in w.items) e) cs o) (sym listed) h

  module _ (bound : ℕ) (within : bound ≤ length db.labels) (first : (l : ℕ) → l < length db.labels → (l < bound) ↔ (position_of db (label l) < w.bound.place)) where
    answered : (o : Option Auto) → ((l : Label) → l.0 < upto bound o → NoTuple db allowed (wanted_of formulas k) (ground_before formulas k) l)
        → HasAuto (IsAutoAt db allowed (wanted_of formulas k) (ground_before formulas k) bound) o → IsFilledBy db options w k e o
    answered None before h =
        chosen_of None
        (none_range (Fits db w.bound.place options.dv w.bound.pairs (steps_in w.items) e) (λ n. map (choice_of (label n)) (step_tuples (ground_before formulas k))) 0 (length db.labels)
        (λ j l u. elim (cases_Bool (nat_lt j bound)) [
          | inl is ↦ let less : j < bound = grind (arith, nat_tests, is) in chosen (label j) None ((first j (omega (arith, u))).0 less) (before (label j) less)
          | inr not ↦ not_before (label j) (λ x. let less = (first j (omega (arith, u))).1 x in let more : bound ≤ j = grind (arith, nat_tests, not) in omega (arith, less, more))
        ]))
    answered (Some a) before h =
        let below = h.below in
        let there = (first a.label.0 (omega (arith, below, within))).0 below in
        let by = h.fits.values in
        let each = (first_is_one (FitsLabel db allowed (wanted_of formulas k) a.label) (IsStepTuple (IsPlace formulas)) (step_tuples (ground_before formulas k)) a.places
        (tuples_are a.label) h.fits.first).each in
        record {
          first = chosen_of (Some (choice_of a.label a.places))
              (some_range (Fits db w.bound.place options.dv w.bound.pairs (steps_in w.items) e) (λ n. map (choice_of (label n)) (step_tuples (ground_before formulas k))) 0 (length db.labels)
              a.label.0 (choice_of a.label a.places) (omega arith) (omega (arith, below, within))
              (λ j l u. chosen (label j) None ((first j (omega (arith, u, below, within))).0 (omega (arith, u, below))) (before (label j) u))
              (chosen a.label (Some a.places) there h.fits.first));
          by = use_of by.0 a.trees;
          fits = to_use a.label a.places each there by.0 a.trees by.1;
          trees = refl;
        }

-- ---- what the calls say, put together

most_labels : (d : Opened) (place bound : ℕ) → bound ≡ labels_before d place → bound ≤ length d.contents.labels
most_labels d place bound count =
    let less = count_by-le-length (λ l. nat_lt (slice_index_or d.contents.positions l 0) place) (range_with_len 0 (length d.contents.labels)) in
    let many = range_count 0 (length d.contents.labels) in
    omega (arith, count, less, many)

pub answer_of : (d : Opened) (place bound : ℕ) (formulas : List Tree) (n : ℕ) (allowed : Option (List Pair)) (places : List ℕ) → IsPlace formulas n → places ≡ ground_before formulas n
    → bound ≡ labels_before d place → ((l : ℕ) → l < length d.contents.labels → (l < bound) ↔ (slice_index_or d.contents.positions l 0 < place)) → (r : Result (Option Auto) Memory)
    → IfOk r (λ o. ForEachText d (λ b. IsFirstAmong b allowed (wanted_of formulas n) places (of_counts d.parsed (slice_index_or formulas n no_tree)) bound o))
    → IfOk r (IsAnswer d place allowed formulas n)
answer_of d place bound formulas n allowed places step same count first (Err m) h = h
answer_of d place bound formulas n allowed places step same count first (Ok o) h = λ kinds text options w e opened of.
    let labels = ap (λ (c : Contents). length c.labels) opened.contents in
    let most = most_labels d place bound count in
    let among = subst (λ ks. IsFirstAmong (book kinds text d) allowed (wanted_of formulas n) ks (of_counts d.parsed (slice_index_or formulas n no_tree)) bound o) same (h kinds text opened) in
    answered (book kinds text d) options w n e place formulas allowed of bound (omega (arith, most, labels))
    (λ l k.
    let both = first l (omega (arith, k, labels)) in (
      λ x. subst (λ p. slice_index_or (book kinds text d).positions l 0 < p) (sym of.place_is) (subst (λ (c : Contents). slice_index_or c.positions l 0 < place) opened.contents (both.0 x)),
      λ x. both.1 (subst (λ (c : Contents). slice_index_or c.positions l 0 < place) (sym opened.contents) (subst (λ p. slice_index_or (book kinds text d).positions l 0 < p) of.place_is x)),
    ))
    o (no_label kinds text d allowed (wanted_of formulas n) step.ground (ground_before formulas n) (upto bound o) among.before) among.found

raised : (d : Opened) (bound n : ℕ) (o : Option Auto) → bound ≤ n → HasAuto (IsSound d bound) o → HasAuto (IsSound d n) o
raised d bound n None l h = tt
raised d bound n (Some a) l h = let below = h.below in record { below = omega (arith, l, below); by = h.by }

pub sound_of : (d : Opened) (place bound : ℕ) → bound ≡ labels_before d place → (o : Option Auto) → HasAuto (IsSound d bound) o → HasAuto (IsSound d (length d.contents.labels)) o
sound_of d place bound count o h = raised d bound (length d.contents.labels) o (most_labels d place bound count) h
