-- The judgements of the written steps.
use Rattle.std.specs.Prelude.{◌≡◌, ◌+◌, ◌==◌, ◌&&◌, nat_le, ℕ, zero, suc, Bool, true, false, List, [], ◌∷◌, ◌++◌, length, map, take, Contains, slice_get, Some, refl}
use Rattle.std.specs.List.{AllByRecursion, list_all}
use Rattle.std.proofs.Common.{sym, ap, subst, ◌∙◌, arith, inl, inr, cond}
use Rattle.std.proofs.lemmas.List.{length-map}
use Rattle.std.proofs.lemmas.List.Elements.{Contains-append_cases}
use Rattle.mm_model.specs.Book.{Database, Assertion}
use Rattle.sheet_text.specs.declared.sheet.Given.{Given}
use Rattle.sheet_text.specs.declared.sheet.Given.TheVariants as given
use Rattle.sheet_text.specs.Spellable.{is_place_below}
use Rattle.solve_model.specs.declared.bound.Bound.{Bound}
use Rattle.solve_model.specs.declared.bound.BoundStep.{BoundStep}
use Rattle.solve_model.specs.declared.verdict.Verdict.{Verdict}
use Rattle.solve_model.specs.declared.verdict.Verdict.TheVariants as verdict
use Rattle.solve_model.specs.Firsts.{IsFirstIn, orders}
use Rattle.solve_model.specs.Bound.{Standing, settled, candidate, standing, IsBoundStep}
use Rattle.solve_model.specs.Solutions.{Unknown, named, blank, copy, Asked, IsUnknown, Solves, names_step, is_free, orders_of}
use Rattle.solve_model.specs.Verdicts.{Judgement, accepted, stands, asked, asked_of, accepted_in, FitsIn, IsJudgement, AreJudged}
use Rattle.solve_laws.proofs.Elements.{only, first, later}
use Rattle.written_model.specs.declared.options.Options.{Options}
use Rattle.written_model.specs.WrittenSteps.{Use, WrittenStep}
use Rattle.written_model.specs.Filled.{written_place, reported}
use Rattle.written_model.specs.Written.{Writing, written_bound, bound_step}
use Rattle.written_model.specs.Again.{judgement_by, judgements_from, unreported}
use Rattle.again_laws.proofs.Lists.{contains_mapped, from_filter_map, into_filter_map, get_contains, all_from, all_of, some_same}
use Rattle.again_laws.proofs.Orders.{first_order, orders-map, all_passes}
use Rattle.again_laws.proofs.Candidates.{candidate_standing, same_standing, told, Told}
use Rattle.again_laws.proofs.AcceptedUses.{order_elements}
use Rattle.again_laws.proofs.Setting.{Setting}
use Rattle.again_laws.proofs.SetAside.{fits_read}
use Rattle.again_laws.proofs.Uses.{IsUse, written_steps}
use Rattle.again_laws.proofs.ValuesStay.{judgement_there, judgement_here, second_bound, second, second_value, step_back, is_valuation, all_solve}
use Rattle.again_laws.proofs.WrittenKinds.{IsStanding, IsWritten, written_at}

judgements_long : (n : ℕ) (es : List WrittenStep) → length (judgements_from n es) ≡ length es
judgements_long n [] = refl
judgements_long n (e ∷ es) = ap (λ k. suc k) (judgements_long (n + 1) es)

back_again : (v : Verdict) → unreported (reported v) ≡ v
back_again verdict.Fits = refl
back_again verdict.NoFit = refl
back_again verdict.UnknownRef = refl
back_again verdict.NotUsable = refl
back_again verdict.TooManyHyps = refl
back_again verdict.NoRef = refl
back_again verdict.Hyp = refl

-- ---- orders of written places

-- the places as they are listed are the first of their orders
first_in_orders : (P : List Given → Type 0) (b : BoundStep) (a : Assertion) → P b.places → IsFirstIn P (orders_of b a) b.places
first_in_orders P b a h = by (is_free b a)
  where
    by : (t : Bool) → IsFirstIn P (cond t (orders (length b.places) b.places) (b.places ∷ [])) b.places
    by true = let r = first_order b.places in subst (λ os. IsFirstIn P os b.places) (sym r.1) (inl (refl, h))
    by false = inl (refl, h)

names_written : (front : List ℕ) (gs : List Given) → list_all names_step (map (written_place front) gs) ≡ list_all names_step gs
names_written front [] = refl
names_written front (given.Gap ∷ gs) = refl
names_written front (given.Step k ∷ gs) = names_written front gs

free_written : (front : List ℕ) (b c : BoundStep) (a : Assertion) → c.places ≡ map (written_place front) b.places → is_free c a ≡ is_free b a
free_written front b c a e =
    let long : length c.places ≡ length b.places = ap length e ∙ length-map b.places (written_place front) in
    let all : list_all names_step c.places ≡ list_all names_step b.places = ap (list_all names_step) e ∙ names_written front b.places in
    ap (λ (n : ℕ). n == length a.hyps && nat_le 2 n && nat_le n 6 && list_all names_step c.places) long
    ∙ ap (λ t. length b.places == length a.hyps && nat_le 2 (length b.places) && nat_le (length b.places) 6 && t) all

orders_written : (front : List ℕ) (b c : BoundStep) (a : Assertion) → c.places ≡ map (written_place front) b.places → orders_of c a ≡ map (map (written_place front)) (orders_of b a)
orders_written front b c a e = ap (λ t. cond t (orders (length c.places) c.places) (c.places ∷ [])) (free_written front b c a e) ∙ by (is_free b a)
  where
    by : (t : Bool) → cond t (orders (length c.places) c.places) (c.places ∷ []) ≡ map (map (written_place front)) (cond t (orders (length b.places) b.places) (b.places ∷ []))
    by true =
        ap (λ ps. orders (length ps) ps) e ∙ ap (λ n. orders n (map (written_place front) b.places)) (length-map b.places (written_place front))
        ∙ orders-map (written_place front) (length b.places) b.places
    by false = ap (λ ps. ps ∷ []) e

module _ (db : Database) (options : Options) (w : Writing) (numbers : List ℕ) (ds : List WrittenStep) (S : Setting db options w numbers ds) where
  abbrev es : List WrittenStep
  es = written_steps db options w numbers ds S

  abbrev wb : Bound
  wb = second_bound db options w numbers ds S

  abbrev J : List Judgement
  J = judgements_from 0 es

  abbrev asks : List Asked
  asks = second db options w numbers ds S

  -- ---- a step that fits or is found is accepted

  module _ (i : ℕ) (e : WrittenStep) (u : Use) (at : slice_get es i ≡ Some e) (by : e.by ≡ Some u) (h : IsUse db options w numbers ds S i e u) where
    abbrev this : Asked
    this = asked i u.assertion e.places

    abbrev before : List Asked
    before = accepted_in (take i J)

    this_in : Contains asks this
    this_in =
        let place : 0 + i ≡ i = omega arith in
        let there : slice_get J i ≡ Some (accepted this) = judgement_here 0 es i e at ∙ ap (λ n. Some (judgement_by n e e.by)) place ∙ ap (λ o. Some (judgement_by i e o)) by in
        into_filter_map asked_of J (accepted this) this (get_contains J i (accepted this) there) refl

    taken_in : (n : ℕ) (os : List Judgement) (o : Judgement) → Contains (take n os) o → Contains os o
    taken_in zero os o m = absurd (none m)
      where
        none : Contains [] o → ⊥
        none q = let less = q.1 in omega (arith, less)
    taken_in (suc n) [] o m = m
    taken_in (suc n) (x ∷ os) o (zero, l, q) = first o x os q
    taken_in (suc n) (x ∷ os) o (suc j, l, q) = later o x os (taken_in n os o (j, omega (arith, l), q))

    asked_in : (y : Asked) → Contains (before ++ this ∷ []) y → Contains asks y
    asked_in y m = elim (Contains-append_cases before (this ∷ []) y m) [
      | inl b ↦ let r = from_filter_map asked_of (take i J) y b in into_filter_map asked_of J r.0 y (taken_in i J r.0 r.1) r.2
      | inr b ↦ subst (Contains asks) (only y this b) this_in
    ]

    more_known : (z : Unknown) → IsUnknown wb (before ++ this ∷ []) z → IsUnknown wb asks z
    more_known (named c n) (IsUnknown.in_formula j s t a b o) = IsUnknown.in_formula j s t a b o
    more_known (blank j) (IsUnknown.is_blank s a b) = IsUnknown.is_blank s a b
    more_known (copy j s c) (IsUnknown.in_frame x v m o) = IsUnknown.in_frame x v (asked_in x m) o

    fits : FitsIn db wb before i u.assertion e.places
    fits =
        let V = is_valuation db options w numbers ds S in
        record {
          value = second_value db options w numbers ds S;
          is_valuation = record { code = λ z on. V.code z (more_known z on); typed = λ z on. V.typed z (more_known z on) };
          solves =
              all_from (Solves wb (second_value db options w numbers ds S)) (before ++ this ∷ [])
              (λ y m. all_of (Solves wb (second_value db options w numbers ds S)) asks y (all_solve db options w numbers ds S) (asked_in y m));
        }

    used_judgement : IsJudgement db wb before i (bound_step db options w e) (standing db wb.place (bound_step db options w e)) (judgement_by i e e.by)
    used_judgement =
        let stood = candidate_standing db w.bound.place (bound_step db options w e) u.assertion h.candidate_is in
        let made = IsJudgement.fits {a = u.assertion} {places = e.places} (first_in_orders (FitsIn db wb before i u.assertion) (bound_step db options w e) u.assertion fits) in
        subst (λ st. IsJudgement db wb before i (bound_step db options w e) st (judgement_by i e e.by)) (sym stood)
        (subst (λ o. IsJudgement db wb before i (bound_step db options w e) (candidate u.assertion) (judgement_by i e o)) (sym by) made)

  -- ---- a step of the worksheet that stands with a verdict

  module _ (i : ℕ) (e : WrittenStep) (h : IsStanding db options w numbers ds S i e) (earlier : List Asked) where
    abbrev k : ℕ
    k = h.origin

    abbrev s : BoundStep
    s = bound_step db options w e

    here : (b : BoundStep) × (slice_get w.bound.steps k ≡ Some b) × IsBoundStep db w.bound.place h.source b
    here = S.bound_steps k h.source h.source_at

    abbrev b : BoundStep
    b = here.0

    is_source : e.places ≡ map (written_place (take k numbers)) h.source.places
    is_source = ap (λ (x : WrittenStep). x.places) h.is

    places_are : s.places ≡ map (written_place (take k numbers)) b.places
    places_are = is_source ∙ ap (map (written_place (take k numbers))) (sym here.2.places)

    same : standing db w.bound.place s ≡ standing db w.bound.place b
    same = same_standing db w.bound.place s b
        (ap (λ (x : WrittenStep). x.hyp) h.is ∙ sym here.2.hyp) (ap (λ (x : WrittenStep). x.reference) h.is ∙ sym here.2.reference)
        (ap length places_are ∙ length-map b.places (written_place (take k numbers)))

    judgement_is : judgement_by i e e.by ≡ stands h.verdict
    judgement_is = ap (λ (x : WrittenStep). judgement_by i x x.by) h.is ∙ ap (λ v. stands v) (back_again h.verdict)

    low : (a : Assertion) (gs : List Given) → Contains (orders_of b a) gs → (y : Given) → Contains gs y → is_place_below k y ≡ true
    low a gs m y o = all_passes (is_place_below k) h.source.places y (S.below k h.source h.source_at) (subst (λ ys. Contains ys y) here.2.places (order_elements b a gs m y o))

    none_fits : (a : Assertion) → AllByRecursion (λ places. FitsIn db w.bound (accepted_in (take k w.judgements)) k a places → ⊥) (orders_of b a)
        → AllByRecursion (λ places. FitsIn db wb earlier i a places → ⊥) (orders_of s a)
    none_fits a none =
        subst (AllByRecursion (λ places. FitsIn db wb earlier i a places → ⊥)) (sym (orders_written (take k numbers) b s a places_are))
        (all_from (λ places. FitsIn db wb earlier i a places → ⊥) (map (map (written_place (take k numbers))) (orders_of b a))
        (λ places m fit.
        let r = contains_mapped (map (written_place (take k numbers))) (orders_of b a) places m in
        all_of (λ gs. FitsIn db w.bound (accepted_in (take k w.judgements)) k a gs → ⊥) (orders_of b a) r.0 none r.1
        (fits_read db options w numbers ds S k i h.origin_at a r.0 (low a r.0 r.1) earlier (subst (FitsIn db wb earlier i a) (sym r.2) fit) b here.1)))

    by_standing : (st : Standing) → Told db w.bound (accepted_in (take k w.judgements)) k b st (stands h.verdict) → IsJudgement db wb earlier i s st (stands h.verdict)
    by_standing (settled v) t = subst (λ x. IsJudgement db wb earlier i s (settled v) (stands x)) (sym t) IsJudgement.other
    by_standing (candidate a) t = subst (λ x. IsJudgement db wb earlier i s (candidate a) (stands x)) (sym t.0) (IsJudgement.no_fit (none_fits a t.1))

    standing_judgement : IsJudgement db wb earlier i s (standing db wb.place s) (judgement_by i e e.by)
    standing_judgement =
        let was = told db w.bound (accepted_in (take k w.judgements)) k b (standing db w.bound.place b) (stands h.verdict) (S.judged.each k b (stands h.verdict) here.1 h.judgement_at) in
        subst (IsJudgement db wb earlier i s (standing db wb.place s)) (sym judgement_is)
        (subst (λ st. IsJudgement db wb earlier i s st (stands h.verdict)) (sym same) (by_standing (standing db w.bound.place b) was))

  -- ---- all steps

  judged_by : (i : ℕ) (e : WrittenStep) → slice_get es i ≡ Some e → IsWritten db options w numbers ds S i e
      → IsJudgement db wb (accepted_in (take i J)) i (bound_step db options w e) (standing db wb.place (bound_step db options w e)) (judgement_by i e e.by)
  judged_by i e at (IsWritten.used u by h) = used_judgement i e u at by h
  judged_by i e at (IsWritten.standing h) = standing_judgement i e h (accepted_in (take i J))
  judged_by i e at (IsWritten.made name t is) =
      subst
      (λ (x : WrittenStep). IsJudgement db wb (accepted_in (take i J)) i (bound_step db options w x)
      (standing db wb.place (bound_step db options w x)) (judgement_by i x x.by))
      (sym is) IsJudgement.other

  each : (i : ℕ) (s : BoundStep) (o : Judgement) → slice_get wb.steps i ≡ Some s → slice_get J i ≡ Some o → IsJudgement db wb (accepted_in (take i J)) i s (standing db wb.place s) o
  each i s o s_at o_at =
      let e = step_back db options w numbers ds S i s s_at in
      let j = judgement_there 0 es i o o_at in
      let one : j.0 ≡ e.0 = some_same j.0 e.0 (sym j.1 ∙ e.1) in
      let place : 0 + i ≡ i = omega arith in
      let is : judgement_by i e.0 e.0.by ≡ o = sym (j.2 ∙ ap (λ n. judgement_by n j.0 j.0.by) place ∙ ap (λ (x : WrittenStep). judgement_by i x x.by) one) in
      subst (λ x. IsJudgement db wb (accepted_in (take i J)) i x (standing db wb.place x) o) e.2
      (subst (IsJudgement db wb (accepted_in (take i J)) i (bound_step db options w e.0) (standing db wb.place (bound_step db options w e.0))) is
      (judged_by i e.0 e.1 (written_at db options w numbers ds S i e.0 e.1)))

  pub verdicts_stay : AreJudged db (written_bound db options w) (judgements_from 0 es)
  verdicts_stay = record { count = judgements_long 0 es ∙ sym (length-map es (bound_step db options w)); each = each }
