-- The steps of a worksheet have judgements, where it is decided what can be solved.
use Rattle.std.specs.Prelude.{◌≡◌, ◌<◌, ◌≤◌, ◌+◌, ◌++◌, ℕ, zero, suc, Bool, true, false, List, [], ◌∷◌, length, take, nat_lt, slice_get}
use Rattle.std.specs.Prelude.{if◌then◌else◌, Contains, Option, Some, None, refl}
use Rattle.std.specs.List.{AllByRecursion, AllZip, list_all}
use Rattle.std.proofs.Common.{sym, ap, subst, arith, inl, inr, append_assoc, length-append, ltb-true}
use Rattle.std.proofs.lemmas.Bool.{and_parts}
use Rattle.std.proofs.lemmas.List.Elements.{filter_map-append}
use Rattle.std.proofs.lemmas.Option.{slice_get_within}
use Rattle.mm_base.specs.declared.tree.Tree.TheVariants.{Work}
use Rattle.mm_model.specs.BookFacts.{IsDatabase}
use Rattle.mm_model.specs.Book.{Database, Assertion, position_of}
use Rattle.mm_model.proofs.TypedLaws.{code-Work, typed-Work}
use Rattle.sheet_text.specs.declared.sheet.Given.{Given}
use Rattle.sheet_text.specs.declared.sheet.Given.TheVariants as given
use Rattle.sheet_text.specs.declared.sheet.Sheet.{Sheet}
use Rattle.sheet_text.specs.declared.sheet.SheetStep.{SheetStep}
use Rattle.sheet_text.specs.Layout.{steps}
use Rattle.sheet_text.specs.Spellable.{is_place_below, is_step_spellable, are_steps_spellable}
use Rattle.solve_model.specs.declared.bound.Bound.{Bound}
use Rattle.solve_model.specs.declared.bound.BoundStep.{BoundStep}
use Rattle.solve_model.specs.declared.verdict.Verdict.TheVariants as verdict
use Rattle.solve_model.specs.Firsts.{orders, IsFirstOrNone}
use Rattle.solve_model.specs.Bound.{IsBoundStep, Binds, Standing, settled, candidate, standing}
use Rattle.solve_model.specs.Binding.{place_of}
use Rattle.solve_model.specs.Solutions.{Asked, Solvable, unknown_code, is_free, orders_of}
use Rattle.solve_model.specs.Verdicts.{Judgement, accepted, stands, asked, asked_of, accepted_in, FitsIn, IsJudgement}
use Rattle.written_model.specs.Existence.{IsPlaceIn, IsCandidate}
use Rattle.answer_laws.proofs.Elements.{all_by-append, nothing, parted}
use Rattle.answer_laws.proofs.Plain.{is_candidate, first_stands}
use Rattle.answer_laws.proofs.Settled.{orders_within}
use Rattle.writing_laws.specs.HasAnswers.{SolvingIsDecided, HasJudgements}
use Rattle.writing_laws.proofs.Decide.{first_in, first_holds, none_holds}

-- ---- the places of a worksheet that can be spelled

pub places_in : (n m : ℕ) (gs : List Given) → n ≤ m → list_all (is_place_below n) gs ≡ true → AllByRecursion (IsPlaceIn m) gs
places_in n m [] l h = tt
places_in n m (given.Gap ∷ gs) l h = (tt, places_in n m gs l h)
places_in n m (given.Step k ∷ gs) l h =
    let both = and_parts (nat_lt k n) (list_all (is_place_below n) gs) h in
    let below = ltb-true k n both.0 in
    (omega (arith, below, l), places_in n m gs l both.1)

spellable_at : (n : ℕ) (ss : List SheetStep) (i : ℕ) (s : SheetStep) → are_steps_spellable n ss ≡ true → slice_get ss i ≡ Some s → is_step_spellable (n + i) s ≡ true
spellable_at n [] i s h e = absurd (cc)
spellable_at n (r ∷ rs) zero s h e =
    let same : r ≡ s = cc in
    let mine = (and_parts (is_step_spellable n r) (are_steps_spellable (suc n) rs) h).0 in
    subst (λ m. is_step_spellable m s ≡ true) (plus_zero n) (subst (λ x. is_step_spellable n x ≡ true) same mine)
  where
    plus_zero : (m : ℕ) → m ≡ m + 0
    plus_zero m = omega arith
spellable_at n (r ∷ rs) (suc i) s h e =
    subst (λ m. is_step_spellable m s ≡ true) (one_more n i) (spellable_at (suc n) rs i s (and_parts (is_step_spellable n r) (are_steps_spellable (suc n) rs) h).1 e)
  where
    one_more : (m k : ℕ) → suc m + k ≡ m + suc k
    one_more m k = omega arith

zip_pair : {A B : Type 0} (R : A → B → Type 0) (xs : List A) (ys : List B) (i : ℕ) (y : B) → AllZip R xs ys → slice_get ys i ≡ Some y → (x : A) × (slice_get xs i ≡ Some x) × R x y
zip_pair R [] [] i y z e = absurd (cc)
zip_pair R [] (b ∷ bs) i y z e = absurd z
zip_pair R (a ∷ rest) [] i y z e = absurd z
zip_pair R (a ∷ rest) (b ∷ bs) zero y z e = let same : b ≡ y = cc in (a, refl, subst (R a) same z.0)
zip_pair R (a ∷ rest) (b ∷ bs) (suc i) y z e = zip_pair R rest bs i y z.1 e

module _ (db : Database) (facts : IsDatabase db) (s : Sheet) (spelled : are_steps_spellable 0 (steps s) ≡ true) (bound : Bound) (binds : Binds db s bound) (decide : SolvingIsDecided db bound) where
  abbrev Fine : Asked → Type 0
  Fine x = IsCandidate db bound x

  step_places : (i : ℕ) (b : BoundStep) → slice_get bound.steps i ≡ Some b → AllByRecursion (IsPlaceIn (length bound.steps)) b.places
  step_places i b e =
      let p = zip_pair (IsBoundStep db (place_of db s)) (steps s) bound.steps i b binds.steps e in
      let low = slice_get_within bound.steps i b e in
      let within : i ≤ length bound.steps = omega (arith, low) in
      let here = subst (λ m. is_step_spellable m p.0 ≡ true) (zero_plus i) (spellable_at 0 (steps s) i p.0 spelled p.1) in
      let below = (and_parts _ _ (and_parts _ _ (and_parts _ _ here).0).0).1 in
      subst (AllByRecursion (IsPlaceIn (length bound.steps))) (sym p.2.places) (places_in i (length bound.steps) p.0.places within below)
    where
      zero_plus : (m : ℕ) → 0 + m ≡ m
      zero_plus m = omega arith

  order_places : (b : Bool) (gs hs : List Given) → AllByRecursion (IsPlaceIn (length bound.steps)) gs
      → Contains (if b then orders (length gs) gs else gs ∷ []) hs → AllByRecursion (IsPlaceIn (length bound.steps)) hs
  order_places true gs hs h o = orders_within (IsPlaceIn (length bound.steps)) (length gs) gs hs h o
  order_places false gs hs h o = elim (parted hs gs [] o) [ inl e ↦ subst (AllByRecursion (IsPlaceIn (length bound.steps))) e h | inr l ↦ absurd (nothing hs l) ]

  asked_fine : (i : ℕ) (b : BoundStep) (a : Assertion) (gs : List Given) → slice_get bound.steps i ≡ Some b → standing db bound.place b ≡ candidate a
      → Contains (orders_of b a) gs → Fine (asked i a gs)
  asked_fine i b a gs e k o =
      let c = is_candidate db bound.place b a k in
      let label = (facts.usable c.label a c.usable).label in
      record {
        step = slice_get_within bound.steps i b e;
        places = order_places (is_free b a) b.places gs (step_places i b e) o;
        usable = subst (λ l. db.usable l ≡ Some a) (sym label) c.usable;
        before = subst (λ l. position_of db l < bound.place) (sym label) c.before;
      }

  -- ---- one step

  -- the judgement of the step of a number, behind those accepted before it
  record Judged (before : List Asked) (i : ℕ) (b : BoundStep) : Type 0 where
    judgement : Judgement
    is : IsJudgement db bound before i b (standing db bound.place b) judgement
    fine : AllByRecursion Fine (accepted_in (judgement ∷ []))
    solvable : Solvable db bound (before ++ accepted_in (judgement ∷ []))

  append_nil : {X : Type 0} (xs : List X) → xs ++ [] ≡ xs
  append_nil [] = refl
  append_nil (x ∷ xs) = ap (λ ys. x ∷ ys) (append_nil xs)

  module _ (before : List Asked) (fine : AllByRecursion Fine before) (can : Solvable db bound before) (i : ℕ) (b : BoundStep) (e : slice_get bound.steps i ≡ Some b) where
    abbrev Fits : Assertion → List Given → Type 0
    Fits a gs = FitsIn db bound before i a gs

    by_order : (a : Assertion) → standing db bound.place b ≡ candidate a → (o : Option (List Given)) → IsFirstOrNone (Fits a) (orders_of b a) o → Judged before i b
    by_order a k (Some gs) h = record {
      judgement = accepted (asked i a gs);
      is = subst (λ st. IsJudgement db bound before i b st (accepted (asked i a gs))) (sym k) (IsJudgement.fits h);
      fine = (asked_fine i b a gs e k (first_stands (Fits a) (orders_of b a) gs h), tt);
      solvable = first_holds (Fits a) (orders_of b a) gs h;
    }
    by_order a k None h = record {
      judgement = stands verdict.NoFit;
      is = subst (λ st. IsJudgement db bound before i b st (stands verdict.NoFit)) (sym k) (IsJudgement.no_fit (none_holds (Fits a) (orders_of b a) h));
      fine = tt;
      solvable = subst (Solvable db bound) (sym (append_nil before)) can;
    }

    by_standing : (st : Standing) → standing db bound.place b ≡ st → Judged before i b
    by_standing (settled v) k = record {
      judgement = stands v;
      is = subst (λ st. IsJudgement db bound before i b st (stands v)) (sym k) IsJudgement.other;
      fine = tt;
      solvable = subst (Solvable db bound) (sym (append_nil before)) can;
    }
    by_standing (candidate a) k =
        let f = first_in (Fits a) (orders_of b a) (λ gs o. decide (before ++ asked i a gs ∷ []) (all_by-append Fine before (asked i a gs ∷ []) fine (asked_fine i b a gs e k o, tt))) in
        by_order a k f.0 f.1

    judge : Judged before i b
    judge = by_standing (standing db bound.place b) refl

  -- ---- all steps

  record AllJudged (front : List Judgement) (bs : List BoundStep) : Type 0 where
    judgements : List Judgement
    count : length judgements ≡ length bs
    each : (k : ℕ) (b : BoundStep) (o : Judgement) → slice_get bs k ≡ Some b → slice_get judgements k ≡ Some o
        → IsJudgement db bound (accepted_in (front ++ take k judgements)) (length front + k) b (standing db bound.place b) o
    fine : AllByRecursion Fine (accepted_in (front ++ judgements))
    solvable : Solvable db bound (accepted_in (front ++ judgements))

  plus_one : (n m k : ℕ) → m ≡ n + 1 → m + k ≡ n + suc k
  plus_one n m k e = omega (arith, e)

  each_of : (b : BoundStep) (bs : List BoundStep) (front : List Judgement) (o : Judgement) → IsJudgement db bound (accepted_in front) (length front) b (standing db bound.place b) o
      → (rest : AllJudged (front ++ o ∷ []) bs) → ((k : ℕ) → length (front ++ o ∷ []) + k ≡ length front + suc k)
      → (k : ℕ) (c : BoundStep) (q : Judgement) → slice_get (b ∷ bs) k ≡ Some c → slice_get (o ∷ rest.judgements) k ≡ Some q
      → IsJudgement db bound (accepted_in (front ++ take k (o ∷ rest.judgements))) (length front + k) c (standing db bound.place c) q
  each_of b bs front o is rest next zero c q e f =
      let step_same : b ≡ c = cc in
      let judged_same : o ≡ q = cc in
      let zero_more : length front ≡ length front + 0 = omega arith in
      subst (λ n. IsJudgement db bound (accepted_in (front ++ [])) n c (standing db bound.place c) q) zero_more
      (subst (λ js. IsJudgement db bound (accepted_in js) (length front) c (standing db bound.place c) q) (sym (append_nil front))
      (subst (λ x. IsJudgement db bound (accepted_in front) (length front) x (standing db bound.place x) q) step_same
      (subst (λ x. IsJudgement db bound (accepted_in front) (length front) b (standing db bound.place b) x) judged_same is)))
  each_of b bs front o is rest next (suc k) c q e f =
      subst (λ n. IsJudgement db bound (accepted_in (front ++ o ∷ take k rest.judgements)) n c (standing db bound.place c) q) (next k)
      (subst (λ js. IsJudgement db bound (accepted_in js) (length (front ++ o ∷ []) + k) c (standing db bound.place c) q) (append_assoc front (o ∷ []) (take k rest.judgements)) (rest.each k c q e f))

  with_rest : (b : BoundStep) (bs : List BoundStep) (front : List Judgement) (o : Judgement) → IsJudgement db bound (accepted_in front) (length front) b (standing db bound.place b) o
      → AllJudged (front ++ o ∷ []) bs → AllJudged front (b ∷ bs)
  with_rest b bs front o is rest =
      let long = length-append front (o ∷ []) in
      record {
        judgements = o ∷ rest.judgements;
        count = ap suc rest.count;
        each = each_of b bs front o is rest (λ k. plus_one (length front) (length (front ++ o ∷ [])) k long);
        fine = subst (λ js. AllByRecursion Fine (accepted_in js)) (append_assoc front (o ∷ []) rest.judgements) rest.fine;
        solvable = subst (λ js. Solvable db bound (accepted_in js)) (append_assoc front (o ∷ []) rest.judgements) rest.solvable;
      }

  judged_more : (front : List Judgement) (o : Judgement) → AllByRecursion Fine (accepted_in front) → AllByRecursion Fine (accepted_in (o ∷ [])) → AllByRecursion Fine (accepted_in (front ++ o ∷ []))
  judged_more front o h k = subst (AllByRecursion Fine) (sym (filter_map-append asked_of front (o ∷ []))) (all_by-append Fine (accepted_in front) (accepted_in (o ∷ [])) h k)

  solved_more : (front : List Judgement) (o : Judgement) → Solvable db bound (accepted_in front ++ accepted_in (o ∷ [])) → Solvable db bound (accepted_in (front ++ o ∷ []))
  solved_more front o h = subst (Solvable db bound) (sym (filter_map-append asked_of front (o ∷ []))) h

  after : (front : List Judgement) (o : Judgement) (b : BoundStep) (bs : List BoundStep)
      → ((k : ℕ) (c : BoundStep) → slice_get (b ∷ bs) k ≡ Some c → slice_get bound.steps (length front + k) ≡ Some c)
      → (k : ℕ) (c : BoundStep) → slice_get bs k ≡ Some c → slice_get bound.steps (length (front ++ o ∷ []) + k) ≡ Some c
  after front o b bs at k c e =
      let long = length-append front (o ∷ []) in
      subst (λ n. slice_get bound.steps n ≡ Some c) (sym (plus_one (length front) (length (front ++ o ∷ [])) k long)) (at (suc k) c e)

  judge_all : (bs : List BoundStep) (front : List Judgement) → ((k : ℕ) (b : BoundStep) → slice_get bs k ≡ Some b → slice_get bound.steps (length front + k) ≡ Some b)
      → AllByRecursion Fine (accepted_in front) → Solvable db bound (accepted_in front) → AllJudged front bs
  judge_all [] front at fine can = record {
    judgements = [];
    count = refl;
    each = λ k b o e f. absurd (cc);
    fine = subst (λ js. AllByRecursion Fine (accepted_in js)) (sym (append_nil front)) fine;
    solvable = subst (λ js. Solvable db bound (accepted_in js)) (sym (append_nil front)) can;
  }
  judge_all (b ∷ bs) front at fine can =
      let zero_more : length front + 0 ≡ length front = omega arith in
      let here = subst (λ n. slice_get bound.steps n ≡ Some b) zero_more (at 0 b refl) in
      let one = judge (accepted_in front) fine can (length front) b here in
      with_rest b bs front one.judgement one.is
      (judge_all bs (front ++ one.judgement ∷ []) (after front one.judgement b bs at) (judged_more front one.judgement fine one.fine) (solved_more front one.judgement one.solvable))

  -- nothing is solved by any valuation of the right typecodes
  nothing_asked : Solvable db bound []
  nothing_asked = record {
    value = λ u. Work (unknown_code db u) 0;
    is_valuation = record { code = λ u o. code-Work (unknown_code db u) 0; typed = λ u o. typed-Work db.rows bound.place (unknown_code db u) 0 };
    solves = tt;
  }

  pub has_judgements : HasJudgements db bound
  has_judgements =
      let all = judge_all bound.steps [] (λ k b e. subst (λ n. slice_get bound.steps n ≡ Some b) (zero_plus k) e) tt nothing_asked in
      record {
        judgements = all.judgements;
        judged = record {
          count = all.count;
          each = λ i b o e f. subst (λ n. IsJudgement db bound (accepted_in (take i all.judgements)) n b (standing db bound.place b) o) (sym (zero_plus i)) (all.each i b o e f);
        };
        candidates = all.fine;
        solvable = all.solvable;
      }
    where
      zero_plus : (n : ℕ) → n ≡ 0 + n
      zero_plus n = omega arith
