-- With added uses the judgements are those of the steps.
use Rattle.std.specs.Prelude.{◌≡◌, ◌⊎◌, ◌+◌, ◌++◌, ℕ, suc, Bool, true, false, List, [], ◌∷◌, length, take, Contains, slice_get, unwrap_or, Option, Some, None, option_map, refl}
use Rattle.std.specs.Option.{option_map_or}
use Rattle.std.proofs.Common.{sym, ap, subst, ◌∙◌, arith, inl, inr, cond}
use Rattle.std.proofs.lemmas.List.{length-map}
use Rattle.std.proofs.lemmas.List.Elements.{Contains-append_left, Contains-append_right, Contains-append_cases}
use Rattle.mm_base.specs.declared.symbols.Label.{Label}
use Rattle.mm_base.specs.declared.symbols.Pair.{Pair}
use Rattle.mm_base.specs.declared.tree.Tree.{Tree}
use Rattle.mm_model.specs.BookFacts.{IsDatabase}
use Rattle.mm_model.specs.Typed.{IsTyped}
use Rattle.mm_model.specs.Book.{Database, Assertion}
use Rattle.proof_model.specs.declared.theorem.Theorem.{Theorem}
use Rattle.sheet_text.specs.declared.sheet.Given.{Given}
use Rattle.solve_model.specs.declared.bound.Bound.{Bound}
use Rattle.solve_model.specs.declared.bound.BoundStep.{BoundStep}
use Rattle.solve_model.specs.Bound.{Standing, settled, candidate, standing}
use Rattle.solve_model.specs.Firsts.{IsFirstIn, orders}
use Rattle.solve_model.specs.Solutions.{named, blank, copy, Valuation, Asked, Solves, is_free, orders_of}
use Rattle.solve_model.specs.Verdicts.{Judgement, accepted, asked, accepted_in, FitsIn, IsJudgement, AreJudged}
use Rattle.solve_model.specs.MostGeneral.{IsTheValuation}
use Rattle.solve_laws.proofs.Elements.{only}
use Rattle.written_model.specs.declared.options.Options.{Options}
use Rattle.written_model.specs.WrittenSteps.{Use, WrittenStep, steps_in, trees, value_of}
use Rattle.written_model.specs.Found.{Choice}
use Rattle.written_model.specs.Written.{Writing, bound_step, written_bound, written_pairs, written_theorem}
use Rattle.written_model.specs.Again.{judgement_by, judgements_from, use_at, value_again}
use Rattle.again_laws.specs.Whole.{IsWhole}
use Rattle.again_laws.proofs.Lists.{get_map, get_mapped, all_from, all_of, some_same}
use Rattle.again_laws.proofs.Orders.{first_order}
use Rattle.again_laws.proofs.ValuesStay.{judgement_there, judgement_here}
use Rattle.answer_laws.proofs.Elements.{all_with}
use Rattle.answer_laws.proofs.SearchedAlike.{first_with}
use Rattle.auto_laws.proofs.Added.{IsAddedUse, with_use, IsAdded, added, AreAdded, use_stands}
use Rattle.auto_laws.proofs.AcceptedMore.{New, NotNew, IsNewAsked, accepted_there, accepted_before, before_accepted, not_new, classified, kept}
use Rattle.auto_laws.proofs.SameFormulas.{unknown_same, solves_same}
use Rattle.auto_laws.proofs.SolvedMore.{other, Extends, solves_more, valuation_more}
use Rattle.auto_laws.proofs.GeneralMore.{use_old, use_new, all_solve, is_valuation}

first_listed : (P : List Given → Type 0) (b : BoundStep) (a : Assertion) → P b.places → IsFirstIn P (orders_of b a) b.places
first_listed P b a h = by (is_free b a)
  where
    by : (t : Bool) → IsFirstIn P (cond t (orders (length b.places) b.places) (b.places ∷ [])) b.places
    by true = let r = first_order b.places in subst (λ os. IsFirstIn P os b.places) (sym r.1) (inl (refl, h))
    by false = inl (refl, h)

judgements_long : (n : ℕ) (es : List WrittenStep) → length (judgements_from n es) ≡ length es
judgements_long n [] = refl
judgements_long n (e ∷ es) = ap (λ k. suc k) (judgements_long (n + 1) es)

module _ (db : Database) (options : Options) (w : Writing) (fs : List WrittenStep) (A : AreAdded db w.bound.place options.dv w.bound.pairs (steps_in w.items) fs)
    (ps : List Pair) (th : Theorem) where
  abbrev es : List WrittenStep
  es = steps_in w.items

  abbrev one : Bound
  one = written_bound db options w

  abbrev more : Bound
  more = other db options w fs A ps th

  abbrev J : List Judgement
  J = judgements_from 0 es

  abbrev K : List Judgement
  K = judgements_from 0 fs

  -- ---- a solution, with the values of the added uses

  abbrev added_use : Option Use → Option Use → Option Use
  added_use None o = o
  added_use (Some u) o = None

  both_none : (o : Option Use) → added_use o o ≡ None
  both_none None = refl
  both_none (Some u) = refl

  added_old : (i : ℕ) → NotNew db options w fs A i → added_use (use_at es i) (use_at fs i) ≡ None
  added_old i h = ap (added_use (use_at es i)) (use_old db options w fs A ps th i h) ∙ both_none (use_at es i)

  added_new : (i : ℕ) (u : Use) → New db options w fs A i u → added_use (use_at es i) (use_at fs i) ≡ Some u
  added_new i u n =
      ap (λ o. added_use (unwrap_or (option_map (λ (e : WrittenStep). e.by) o) None) (use_at fs i)) n.at
      ∙ ap (λ o. added_use o (use_at fs i)) n.is.not_used ∙ use_new db options w fs A ps th i u n

  -- the values of the added uses, and else those of the valuation
  abbrev lifted : Valuation → Valuation
  lifted v (named c n) = v (named c n)
  lifted v (blank i) = v (blank i)
  lifted v (copy i s c) = option_map_or (λ x. value_of x s) (added_use (use_at es i) (use_at fs i)) (v (copy i s c))

  lifted_extends : (v : Valuation) → Extends db options w fs A ps th v (lifted v)
  lifted_extends v = record {
    names = λ c n. refl;
    blanks = λ i. refl;
    old = λ i s c h. ap (λ o. option_map_or (λ x. value_of x s) o (v (copy i s c))) (added_old i h);
    new = λ i u s c n. ap (λ o. option_map_or (λ x. value_of x s) o (v (copy i s c))) (added_new i u n);
  }

  -- ---- what fits a step

  module _ (i : ℕ) (whole : (l : Label) (a : Assertion) → db.usable l ≡ Some a → IsWhole a)
      (typed : (k : ℕ) (t : Tree) → slice_get (trees es) k ≡ Some t → IsTyped db.rows w.bound.place t) where
    abbrev before : List Asked
    before = accepted_in (take i J)

    abbrev all_before : List Asked
    all_before = accepted_in (take i K)

    each_before : (x : Asked) → Contains all_before x → (Contains before x × NotNew db options w fs A x.step) ⊎ IsNewAsked db options w fs A x
    each_before x m =
        let k = accepted_before i K x m in
        elim (classified db options w fs A k.0 x k.1) [ inl o ↦ inl (before_accepted i J k.0 x o.0 k.2, o.1) | inr n ↦ inr n ]

    kept_before : (x : Asked) → Contains before x → Contains all_before x
    kept_before x m = let k = accepted_before i J x m in before_accepted i K k.0 x (kept db options w fs A k.0 x k.1).0 k.2

    module _ (a : Assertion) (gs : List Given) where
      abbrev this : Asked
      this = asked i a gs

      each_with : NotNew db options w fs A i → (x : Asked) → Contains (all_before ++ this ∷ []) x
          → (Contains (before ++ this ∷ []) x × NotNew db options w fs A x.step) ⊎ IsNewAsked db options w fs A x
      each_with old x m = elim (Contains-append_cases all_before (this ∷ []) x m) [
        | inl o ↦ elim (each_before x o) [ inl k ↦ inl (Contains-append_left before (this ∷ []) x k.0, k.1) | inr n ↦ inr n ]
        | inr o ↦
            let same : this ≡ x = only x this o in
            inl (Contains-append_right before (this ∷ []) x o, subst (λ (y : Asked). NotNew db options w fs A y.step) same old)
      ]

      kept_with : (x : Asked) → Contains (before ++ this ∷ []) x → Contains (all_before ++ this ∷ []) x
      kept_with x m = elim (Contains-append_cases before (this ∷ []) x m) [
        | inl o ↦ Contains-append_left all_before (this ∷ []) x (kept_before x o)
        | inr o ↦ Contains-append_right all_before (this ∷ []) x o
      ]

      fits_there : NotNew db options w fs A i → FitsIn db one before i a gs → FitsIn db more all_before i a gs
      fits_there old h = record {
        value = lifted h.value;
        is_valuation = valuation_more db options w fs A ps th h.value (lifted h.value) (lifted_extends h.value) (before ++ this ∷ []) (all_before ++ this ∷ []) (each_with old) whole typed h.is_valuation;
        solves = solves_more db options w fs A ps th h.value (lifted h.value) (lifted_extends h.value) (before ++ this ∷ []) (all_before ++ this ∷ []) (each_with old) h.solves;
      }

      fits_back : FitsIn db more all_before i a gs → FitsIn db one before i a gs
      fits_back h =
          let forth = unknown_same db options w es fs A.same (written_pairs db options w) ps (written_theorem db options w) th (before ++ this ∷ []) (all_before ++ this ∷ []) kept_with in
          record {
            value = h.value;
            is_valuation = record { code = λ u on. h.is_valuation.code u (forth u on); typed = λ u on. h.is_valuation.typed u (forth u on) };
            solves =
                all_from (Solves one h.value) (before ++ this ∷ [])
                (λ x m. solves_same db options w fs es (sym A.same) ps (written_pairs db options w) th (written_theorem db options w) h.value x
                (all_of (Solves more h.value) (all_before ++ this ∷ []) x h.solves (kept_with x m)));
          }

    -- ---- a step that stays

    moved : NotNew db options w fs A i → (s : BoundStep) (st : Standing) (o : Judgement) → IsJudgement db one before i s st o → IsJudgement db more all_before i s st o
    moved old s (settled v) _ IsJudgement.other = IsJudgement.other
    moved old s (candidate a) _ (IsJudgement.fits {places = gs} f) =
        IsJudgement.fits (first_with (FitsIn db one before i a) (FitsIn db more all_before i a) (λ ps. fits_there a ps old) (λ ps. fits_back a ps) (orders_of s a) (Some gs) f)
    moved old s (candidate a) _ (IsJudgement.no_fit f) =
        IsJudgement.no_fit (all_with (λ ps. FitsIn db one before i a ps → ⊥) (λ ps. FitsIn db more all_before i a ps → ⊥) (λ ps no_one h. no_one (fits_back a ps h)) (orders_of s a) f)

  -- ---- all steps

  module _ (facts : IsDatabase db) (whole : (l : Label) (a : Assertion) → db.usable l ≡ Some a → IsWhole a)
      (typed : (k : ℕ) (t : Tree) → slice_get (trees es) k ≡ Some t → IsTyped db.rows w.bound.place t)
      (judged : AreJudged db one J) (the : IsTheValuation db one (accepted_in J) (value_again es)) where
    abbrev Judged : ℕ → WrittenStep → Judgement → Type 0
    Judged i f o = IsJudgement db more (accepted_in (take i K)) i (bound_step db options w f) (standing db w.bound.place (bound_step db options w f)) o

    -- what is accepted so far and the step itself are solved
    fits_new : (i : ℕ) (x : Asked) → slice_get K i ≡ Some (accepted x) → x.step ≡ i → FitsIn db more (accepted_in (take i K)) i x.assertion x.places
    fits_new i x at number =
        let same : asked i x.assertion x.places ≡ x = ap (λ n. asked n x.assertion x.places) (sym number) in
        let within : (y : Asked) → Contains (accepted_in (take i K) ++ asked i x.assertion x.places ∷ []) y → Contains (accepted_in K) y =
        λ y m. elim (Contains-append_cases (accepted_in (take i K)) (asked i x.assertion x.places ∷ []) y m) [
          | inl o ↦ let k = accepted_before i K y o in accepted_there K k.0 y k.1
          | inr o ↦ subst (Contains (accepted_in K)) (sym same ∙ only y (asked i x.assertion x.places) o) (accepted_there K i x at)
        ] in
        let V = is_valuation db options w fs A ps th whole typed the in
        let forth = unknown_same db options w fs fs refl ps ps th th (accepted_in (take i K) ++ asked i x.assertion x.places ∷ []) (accepted_in K) within in
        record {
          value = value_again fs;
          is_valuation = record { code = λ u on. V.code u (forth u on); typed = λ u on. V.typed u (forth u on) };
          solves =
              all_from (Solves more (value_again fs)) (accepted_in (take i K) ++ asked i x.assertion x.places ∷ [])
              (λ y m. all_of (Solves more (value_again fs)) (accepted_in K) y (all_solve db options w fs A ps th whole typed the) (within y m));
        }

    new_judged : (i : ℕ) (e : WrittenStep) (c : Choice) (u : Use) → slice_get fs i ≡ Some (with_use db w.bound.place options.dv w.bound.pairs es e c u)
        → IsAddedUse db w.bound.place options.dv w.bound.pairs es i e c u
        → Judged i (with_use db w.bound.place options.dv w.bound.pairs es e c u) (accepted (asked i u.assertion c.places))
    new_judged i e c u there h =
        let f = with_use db w.bound.place options.dv w.bound.pairs es e c u in
        let at : slice_get K i ≡ Some (accepted (asked i u.assertion c.places)) = judgement_here 0 fs i f there ∙ ap (λ n. Some (accepted (asked n u.assertion c.places))) (zero_plus i) in
        let stood = use_stands db w.bound.place options.dv w.bound.pairs es i e c u h (whole c.label u.assertion h.fits.is_usable) options w facts in
        subst (λ st. IsJudgement db more (accepted_in (take i K)) i (bound_step db options w f) st (accepted (asked i u.assertion c.places))) (sym stood)
        (IsJudgement.fits {a = u.assertion} {places = c.places}
        (first_listed (FitsIn db more (accepted_in (take i K)) i u.assertion) (bound_step db options w f) u.assertion (fits_new i (asked i u.assertion c.places) at refl)))
      where
        zero_plus : (n : ℕ) → 0 + n ≡ n
        zero_plus n = omega arith

    old_judged : (i : ℕ) (e : WrittenStep) → slice_get es i ≡ Some e → slice_get fs i ≡ Some e → Judged i e (judgement_by (0 + i) e e.by)
    old_judged i e at there =
        moved i whole typed (not_new db options w fs A i e at there) (bound_step db options w e) (standing db w.bound.place (bound_step db options w e)) (judgement_by (0 + i) e e.by)
        (judged.each i (bound_step db options w e) (judgement_by (0 + i) e e.by) (get_map (bound_step db options w) es i e at) (judgement_here 0 es i e at))

    each_judged : (i : ℕ) (e f : WrittenStep) → slice_get es i ≡ Some e → slice_get fs i ≡ Some f → IsAdded db w.bound.place options.dv w.bound.pairs es i e f
        → Judged i f (judgement_by (0 + i) f f.by)
    each_judged i e _ at there IsAdded.stays = old_judged i e at there
    each_judged i e _ at there (added c u h) =
        let f = with_use db w.bound.place options.dv w.bound.pairs es e c u in
        subst (λ n. Judged i f (accepted (asked n u.assertion c.places))) (plus i) (new_judged i e c u there h)
      where
        plus : (n : ℕ) → n ≡ 0 + n
        plus n = omega arith

    each : (i : ℕ) (s : BoundStep) (o : Judgement) → slice_get more.steps i ≡ Some s → slice_get K i ≡ Some o
        → IsJudgement db more (accepted_in (take i K)) i s (standing db more.place s) o
    each i s o s_at o_at =
        let f = get_mapped (bound_step db options w) fs i s s_at in
        let j = judgement_there 0 fs i o o_at in
        let one_step : j.0 ≡ f.0 = some_same j.0 f.0 (sym j.1 ∙ f.1) in
        let e = A.back i f.0 f.1 in
        subst (λ x. IsJudgement db more (accepted_in (take i K)) i x (standing db more.place x) o) f.2
        (subst (Judged i f.0) (sym (j.2 ∙ ap (λ (x : WrittenStep). judgement_by (0 + i) x x.by) one_step)) (each_judged i e.0 f.0 e.1 f.1 e.2))

    pub judged_more : AreJudged db more K
    judged_more = record { count = judgements_long 0 fs ∙ sym (length-map fs (bound_step db options w)); each = each }
