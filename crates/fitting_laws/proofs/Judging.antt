-- The steps of a worksheet that fits are accepted with their places as they are listed.
use Rattle.std.specs.Prelude.{◌≡◌, ◌≤◌, ◌+◌, nat_lt, nat_le, ℕ, suc, Bool, true, false, List, [], ◌∷◌, ◌++◌, length, take, drop, Contains, slice_get, Some, None, refl}
use Rattle.std.specs.List.{AllZip}
use Rattle.std.proofs.Common.{sym, ap, subst, ◌∙◌, arith, inl, inr, cond}
use Rattle.std.proofs.lemmas.Bool.Decides.{nat_tests}
use Rattle.std.proofs.lemmas.List.Elements.{Contains-append_left, Contains-append_cases}
use Rattle.std.proofs.lemmas.List.{take-append-drop}
use Rattle.mm_base.specs.declared.symbols.Sym.{Sym}
use Rattle.mm_base.specs.declared.symbols.Pair.{Pair}
use Rattle.mm_base.specs.declared.symbols.Typecode.{Typecode}
use Rattle.mm_base.specs.declared.tree.Tree.{Tree}
use Rattle.mm_base.specs.Trees.{code_of}
use Rattle.mm_model.specs.Productions.{TypedVariable}
use Rattle.mm_model.specs.Typed.{IsTyped}
use Rattle.mm_model.specs.Book.{Database, Assertion, position_of}
use Rattle.sheet_text.specs.declared.sheet.Given.{Given}
use Rattle.sheet_text.specs.declared.sheet.Given.TheVariants as given
use Rattle.sheet_text.specs.declared.sheet.SheetStep.{SheetStep}
use Rattle.solve_model.specs.declared.bound.Bound.{Bound}
use Rattle.solve_model.specs.declared.bound.BoundStep.{BoundStep}
use Rattle.solve_model.specs.declared.verdict.Verdict.TheVariants as verdict
use Rattle.solve_model.specs.Bound.{settled, standing, standing_of_reference}
use Rattle.solve_model.specs.Firsts.{IsFirstIn, orders}
use Rattle.solve_model.specs.Trees.{leaf_tree, work, open_leaves}
use Rattle.solve_model.specs.Solutions.{Unknown, named, blank, copy, Valuation, Asked, IsUnknown, IsValuation, PlacesFit, Solves, formula, instance, unknown_code}
use Rattle.solve_model.specs.Solutions.{is_free, orders_of}
use Rattle.solve_model.specs.Verdicts.{Judgement, accepted, stands, asked, asked_of, accepted_in, FitsIn, IsJudgement, AreJudged}
use Rattle.solve_laws.proofs.Elements.{only}
use Rattle.solve_laws.proofs.ReplaceLaws.{replace-agree}
use Rattle.written_model.specs.declared.report.ReportVerdict.TheVariants as report
use Rattle.written_model.specs.Found.{valued}
use Rattle.written_model.specs.WrittenSteps.{Use, WrittenStep, value_of}
use Rattle.written_model.specs.Again.{judgement_by, judgements_from, use_at, value_again}
use Rattle.again_laws.proofs.Candidates.{IsCandidate, candidate_standing}
use Rattle.again_laws.proofs.Lists.{from_filter_map, into_filter_map, get_contains, all_from, some_same, zip_long}
use Rattle.again_laws.proofs.Orders.{first_order}
use Rattle.again_laws.proofs.ValuesStay.{judgement_there, judgement_here, asked_again}
use Rattle.fitting_laws.specs.FitsAsWritten.{FitsAsListed, earlier_tree}
use Rattle.fitting_laws.proofs.Expected.{step_of, IsExpected}
use Rattle.fitting_laws.proofs.Scenes.{Scene, IsBoundAs, IsUsed, used, taken, formula_stays, conclusion, hyps, value_code, value_typed}

-- the places as they are listed are the first of their orders
first_listed : (P : List Given → Type 0) (b : BoundStep) (a : Assertion) → P b.places → IsFirstIn P (orders_of b a) b.places
first_listed P b a h = by (is_free b a)
  where
    by : (t : Bool) → IsFirstIn P (cond t (orders (length b.places) b.places) (b.places ∷ [])) b.places
    by true = let r = first_order b.places in subst (λ os. IsFirstIn P os b.places) (sym r.1) (inl (refl, h))
    by false = inl (refl, h)

judgements_long : (n : ℕ) (es : List WrittenStep) → length (judgements_from n es) ≡ length es
judgements_long n [] = refl
judgements_long n (e ∷ es) = ap (λ k. suc k) (judgements_long (n + 1) es)

taken_in : {X : Type 0} (n : ℕ) (os : List X) (o : X) → Contains (take n os) o → Contains os o
taken_in n os o m = subst (λ xs. Contains xs o) (take-append-drop n os) (Contains-append_left (take n os) (drop n os) o m)

module _ (db : Database) (bound : Bound) (pairs : List Pair) (ss : List SheetStep) (ts : List Tree) (es : List WrittenStep) (S : Scene db bound pairs ss ts es) where
  abbrev J : List Judgement
  J = judgements_from 0 es

  abbrev asks : List Asked
  asks = accepted_in J

  abbrev v : Valuation
  v = value_again es

  -- ---- the written values solve

  module _ (i : ℕ) (e : WrittenStep) (u : Use) (at : slice_get es i ≡ Some e) (by : e.by ≡ Some u) where
    abbrev U : IsUsed db bound pairs ss ts es S i e u
    U = used db bound pairs ss ts es S i e u at by

    copy_value : (s : Sym) (c : Typecode) → v (copy i s c) ≡ value_of u s
    copy_value s c = let found : use_at es i ≡ Some u = rw at by in rw found refl

    instance_is : (t : Tree) → instance v i t ≡ valued u t
    instance_is t = replace-agree (λ s c. v (copy i s c)) (λ s c. value_of u s) leaf_tree leaf_tree copy_value t (λ x o. refl)

    here : (b : BoundStep) × (slice_get bound.steps i ≡ Some b) × IsBoundAs U.source b
    here = S.bound_at i U.source U.tree U.source_at U.tree_at

    formula_here : formula bound v i ≡ U.tree
    formula_here = formula_stays db bound pairs ss ts es S v i U.tree U.tree_at here.0 here.1

    formula_earlier : (k : ℕ) (t : Tree) → slice_get (take i ts) k ≡ Some t → formula bound v k ≡ t
    formula_earlier k t q =
        let r = taken i k ts t q in
        let b = S.tree_bound k t r.0 in
        formula_stays db bound pairs ss ts es S v k t r.0 b.0 b.1

    places_fit : (gs : List Given) (hs : List Tree) → AllZip (λ (h : Tree) (g : Given). earlier_tree (take i ts) g ≡ Some (valued u h)) hs gs → PlacesFit bound v i gs hs
    places_fit [] hs z = tt
    places_fit (g ∷ gs) [] z = absurd z
    places_fit (given.Gap ∷ gs) (h ∷ hs) z = absurd (none z.0)
      where
        none : None ≡ Some (valued u h) → ⊥
        none q = cc
    places_fit (given.Step k ∷ gs) (h ∷ hs) z = (instance_is h ∙ sym (formula_earlier k (valued u h) z.0), places_fit gs hs z.1)

    pub solves : Solves bound v (asked i u.assertion U.source.places)
    solves = record {
      conclusion = instance_is u.assertion.tree ∙ conclusion db bound pairs ss ts es S i e u U ∙ sym formula_here;
      places = places_fit U.source.places u.assertion.hyps (hyps db bound pairs ss ts es S i e u U);
    }

  -- what is asked of a step
  record AskedOf (x : Asked) : Type 0 where
    step : WrittenStep
    at : slice_get es x.step ≡ Some step
    its_use : Use
    by : step.by ≡ Some its_use
    is : x ≡ asked x.step its_use.assertion (used db bound pairs ss ts es S x.step step its_use at by).source.places

  asked_of_step : (x : Asked) → Contains asks x → AskedOf x
  asked_of_step x m =
      let r = asked_again es x m in
      let U = used db bound pairs ss ts es S x.step r.step r.use_ r.at r.by in
      record { step = r.step; at = r.at; its_use = r.use_; by = r.by; is = r.is ∙ ap (λ (e : WrittenStep). asked x.step r.use_.assertion e.places) U.is }

  solves_asked : (x : Asked) → Contains asks x → Solves bound v x
  solves_asked x m = let r = asked_of_step x m in subst (Solves bound v) (sym r.is) (solves x.step r.step r.its_use r.at r.by)

  copy_known : (x : Asked) (w : TypedVariable) → Contains asks x → Contains x.assertion.vars w
      → (code_of (v (copy x.step w.sym w.code)) ≡ w.code) × IsTyped db.rows bound.place (v (copy x.step w.sym w.code))
  copy_known x w m o =
      let r = asked_of_step x m in
      let U = used db bound pairs ss ts es S x.step r.step r.its_use r.at r.by in
      let inside : Contains r.its_use.assertion.vars w = subst (λ (y : Asked). Contains y.assertion.vars w) r.is o in
      let same = copy_value x.step r.step r.its_use r.at r.by w.sym w.code in (
        ap code_of same ∙ value_code db bound pairs ss ts es S x.step r.step r.its_use U w inside,
        subst (IsTyped db.rows bound.place) (sym same) (value_typed db bound pairs ss ts es S x.step r.step r.its_use U w inside),
      )

  no_named : (c : Typecode) (n : ℕ) (asked_ : List Asked) → IsUnknown bound asked_ (named c n) → ⊥
  no_named c n asked_ (IsUnknown.in_formula i b t at tree o) =
      let own = S.bound_tree i b at in
      let same : own.0 ≡ t = some_same own.0 t (sym own.2 ∙ tree) in
      S.closed i own.0 own.1 (work c n) (subst (λ x. Contains (open_leaves x) (work c n)) (sym same) o)

  no_blank : (i : ℕ) (asked_ : List Asked) → IsUnknown bound asked_ (blank i) → ⊥
  no_blank i asked_ (IsUnknown.is_blank b at none) = let own = S.bound_tree i b at in clash (sym own.2 ∙ none)
    where
      clash : {t : Tree} → Some t ≡ None → ⊥
      clash q = cc

  module _ (some : List Asked) (all_asked : (x : Asked) → Contains some x → Contains asks x) where
    abbrev On : Unknown → Type 0
    On = IsUnknown bound some

    code_known : (u : Unknown) → On u → code_of (v u) ≡ unknown_code db u
    code_known (named c n) on = absurd (no_named c n some on)
    code_known (blank i) on = absurd (no_blank i some on)
    code_known (copy _ _ _) (IsUnknown.in_frame x w m o) = (copy_known x w (all_asked x m) o).0

    typed_known : (u : Unknown) → On u → IsTyped db.rows bound.place (v u)
    typed_known (named c n) on = absurd (no_named c n some on)
    typed_known (blank i) on = absurd (no_blank i some on)
    typed_known (copy _ _ _) (IsUnknown.in_frame x w m o) = (copy_known x w (all_asked x m) o).1

    valuation : IsValuation db bound.place On v
    valuation = record { code = code_known; typed = typed_known }

  -- ---- each judgement

  module _ (i : ℕ) (s : SheetStep) (t : Tree) (s_at : slice_get ss i ≡ Some s) (t_at : slice_get ts i ≡ Some t) (b : BoundStep) (b_at : slice_get bound.steps i ≡ Some b) where
    same_bound : IsBoundAs s b
    same_bound = let h = S.bound_at i s t s_at t_at in subst (IsBoundAs s) (some_same h.0 b (sym h.1 ∙ b_at)) h.2

    abbrev before : List Asked
    before = accepted_in (take i J)

    abbrev Judged : Judgement → Type 0
    Judged o = IsJudgement db bound before i b (standing db bound.place b) o

    hyp_judged : s.hyp ≡ true → Judged (stands verdict.Hyp)
    hyp_judged h =
        let hyp : b.hyp ≡ true = same_bound.hyp ∙ h in
        let stood : standing db bound.place b ≡ settled verdict.Hyp = ap (λ x. cond x (settled verdict.Hyp) (standing_of_reference db bound.place b b.reference)) hyp in
        subst (λ st. IsJudgement db bound before i b st (stands verdict.Hyp)) (sym stood) IsJudgement.other

    module _ (h : s.hyp ≡ false) (f : FitsAsListed db bound.place pairs (take i ts) s t) (e_at : slice_get es i ≡ Some (step_of s t report.Fits (Some f.by))) where
      abbrev a : Assertion
      a = f.by.assertion

      abbrev this : Asked
      this = asked i a s.places

      this_in : Contains asks this
      this_in =
          let place : 0 + i ≡ i = omega arith in
          let there : slice_get J i ≡ Some (accepted this) = judgement_here 0 es i (step_of s t report.Fits (Some f.by)) e_at ∙ ap (λ n. Some (accepted (asked n a s.places))) place in
          into_filter_map asked_of J (accepted this) this (get_contains J i (accepted this) there) refl

      asked_in : (y : Asked) → Contains (before ++ this ∷ []) y → Contains asks y
      asked_in y m = elim (Contains-append_cases before (this ∷ []) y m) [
        | inl o ↦ let r = from_filter_map asked_of (take i J) y o in into_filter_map asked_of J r.0 y (taken_in i J r.0 r.1) r.2
        | inr o ↦ subst (Contains asks) (only y this o) this_in
      ]

      solvable : FitsIn db bound before i a s.places
      solvable = record {
        value = v;
        is_valuation = valuation (before ++ this ∷ []) asked_in;
        solves = all_from (Solves bound v) (before ++ this ∷ []) (λ y m. solves_asked y (asked_in y m));
      }

      is_candidate : IsCandidate db bound.place b a
      is_candidate =
          let is = S.facts.usable f.label a f.is_usable in
          let less = f.before in
          let count = zip_long _ a.hyps s.places f.hyps in
          let same = same_bound in
          record {
            no_hyp = same.hyp ∙ h;
            name = f.name;
            reference = same.reference ∙ f.reference;
            label = f.label;
            label_is = f.is_label;
            frame = a.frame;
            frame_is = is.frame;
            earlier = (let r : nat_lt (position_of db f.label) bound.place ≡ true = grind (arith, nat_tests, less) in r);
            usable = f.is_usable;
            has_places =
                (let long : length b.places ≡ length s.places = ap length same.places in
                let le : length b.places ≤ length a.hyps = omega (arith, count, long) in
                let r : nat_le (length b.places) (length a.hyps) ≡ true = grind (arith, nat_tests, le) in r);
          }

      fits_judged : Judged (accepted this)
      fits_judged =
          let stood = candidate_standing db bound.place b a is_candidate in
          let places = same_bound.places in
          let first_in : IsFirstIn (FitsIn db bound before i a) (orders_of b a) b.places =
          first_listed (FitsIn db bound before i a) b a (subst (FitsIn db bound before i a) (sym places) solvable) in
          subst (λ st. IsJudgement db bound before i b st (accepted this)) (sym stood)
          (IsJudgement.fits {a = a} {places = s.places} (subst (IsFirstIn (FitsIn db bound before i a) (orders_of b a)) places first_in))

  judged_at : (i : ℕ) (e : WrittenStep) → slice_get es i ≡ Some e → (b : BoundStep) → slice_get bound.steps i ≡ Some b
      → IsJudgement db bound (accepted_in (take i J)) i b (standing db bound.place b) (judgement_by i e e.by)
  judged_at i e at b b_at = let r = S.view.rows i e at in from r.source r.source_at r.tree r.tree_at e at r.is
    where
      from : (s : SheetStep) → slice_get ss i ≡ Some s → (t : Tree) → slice_get ts i ≡ Some t → (x : WrittenStep) → slice_get es i ≡ Some x
          → IsExpected db bound.place pairs (take i ts) s t x
          → IsJudgement db bound (accepted_in (take i J)) i b (standing db bound.place b) (judgement_by i x x.by)
      from s s_at t t_at _ x_at (IsExpected.hyp h) = hyp_judged i s t s_at t_at b b_at h
      from s s_at t t_at _ x_at (IsExpected.fits h f) = fits_judged i s t s_at t_at b b_at h f x_at

  pub judged : AreJudged db bound J
  judged = record {
    count = judgements_long 0 es ∙ sym S.bound_long;
    each = λ i b o b_at o_at.
        let e = judgement_there 0 es i o o_at in
        let place : 0 + i ≡ i = omega arith in
        subst (IsJudgement db bound (accepted_in (take i J)) i b (standing db bound.place b)) (sym (e.2 ∙ ap (λ n. judgement_by n e.0 e.0.by) place)) (judged_at i e.0 e.1 b b_at);
  }
