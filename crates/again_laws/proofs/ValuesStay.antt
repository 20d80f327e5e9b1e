-- Of the written steps that fit or are found, the written values are most general.
use Rattle.std.specs.Prelude.{◌≡◌, ◌+◌, ℕ, zero, suc, List, [], ◌∷◌, Contains, slice_get, slice_index_or, Option, Some, None, refl}
use Rattle.std.specs.List.{AllByRecursion}
use Rattle.std.proofs.Common.{sym, ap, subst, ◌∙◌, arith}
use Rattle.mm_base.specs.declared.symbols.Sym.{Sym}
use Rattle.mm_base.specs.declared.symbols.Typecode.{Typecode}
use Rattle.mm_base.specs.declared.tree.Tree.{Tree}
use Rattle.mm_base.specs.declared.tree.Tree.TheVariants.{Var}
use Rattle.mm_base.specs.Trees.{code_of}
use Rattle.mm_model.specs.Productions.{TypedVariable}
use Rattle.mm_model.specs.Typed.{IsTyped}
use Rattle.mm_model.specs.Book.{Database, Assertion}
use Rattle.mm_model.proofs.TypedLaws.{code-Work, typed-Work}
use Rattle.sheet_text.specs.declared.sheet.Given.{Given}
use Rattle.sheet_text.specs.declared.sheet.Given.TheVariants as given
use Rattle.solve_model.specs.declared.bound.Bound.{Bound}
use Rattle.solve_model.specs.declared.bound.BoundStep.{BoundStep}
use Rattle.solve_model.specs.Trees.{Open, work, fresh, leaf_tree, replace}
use Rattle.solve_model.specs.Solutions.{Unknown, named, blank, copy, Valuation, Asked, IsUnknown, IsValuation, PlacesFit, Solves, formula, formula_value, instance, open_value, unknown_code, no_step}
use Rattle.solve_model.specs.Verdicts.{Judgement, accepted, asked, asked_of, accepted_in}
use Rattle.solve_laws.proofs.ReplaceLaws.{replace-agree, replace-self}
use Rattle.written_model.specs.declared.options.Options.{Options}
use Rattle.written_model.specs.WrittenSteps.{Use, WrittenStep, trees, value_of}
use Rattle.written_model.specs.Found.{valued}
use Rattle.written_model.specs.Written.{Writing, bound_step, written_bound}
use Rattle.written_model.specs.Again.{judgement_by, judgements_from, use_at, value_again}
use Rattle.again_laws.specs.Whole.{IsWhole}
use Rattle.again_laws.proofs.Lists.{contains_get, from_filter_map, all_from, get_map, get_mapped, index_from_get, some_same}
use Rattle.again_laws.proofs.Accepted.{asked_is}
use Rattle.again_laws.proofs.Setting.{Setting}
use Rattle.again_laws.proofs.Uses.{PlacesHold, IsUse, written_steps}
use Rattle.again_laws.proofs.WrittenKinds.{use_written}

-- ---- the judgements of written steps

pub judgement_there : (n : ℕ) (es : List WrittenStep) (i : ℕ) (o : Judgement) → slice_get (judgements_from n es) i ≡ Some o
    → (e : WrittenStep) × (slice_get es i ≡ Some e) × (o ≡ judgement_by (n + i) e e.by)
judgement_there n [] i o h = absurd cc
judgement_there n (e ∷ es) zero o h = let place : n ≡ n + 0 = omega arith in (e, refl, sym (some_same (judgement_by n e e.by) o h) ∙ ap (λ k. judgement_by k e e.by) place)
judgement_there n (e ∷ es) (suc i) o h =
    let r = judgement_there (n + 1) es i o h in
    let place : (n + 1) + i ≡ n + suc i = omega arith in
    (r.0, r.1, r.2 ∙ ap (λ k. judgement_by k r.0 r.0.by) place)

pub judgement_here : (n : ℕ) (es : List WrittenStep) (i : ℕ) (e : WrittenStep) → slice_get es i ≡ Some e → slice_get (judgements_from n es) i ≡ Some (judgement_by (n + i) e e.by)
judgement_here n [] i e h = absurd cc
judgement_here n (x ∷ es) zero e h = let place : n ≡ n + 0 = omega arith in ap (λ (z : WrittenStep). Some (judgement_by n z z.by)) (some_same x e h) ∙ ap (λ k. Some (judgement_by k e e.by)) place
judgement_here n (x ∷ es) (suc i) e h =
    let place : (n + 1) + i ≡ n + suc i = omega arith in
    judgement_here (n + 1) es i e h ∙ ap (λ k. Some (judgement_by k e e.by)) place

judged_by : (i : ℕ) (e : WrittenStep) (o : Option Use) (x : Asked) → judgement_by i e o ≡ accepted x → (u : Use) × (o ≡ Some u) × (x ≡ asked i u.assertion e.places)
judged_by i e None x h = absurd cc
judged_by i e (Some u) x h = (u, refl, asked_same (asked i u.assertion e.places) x h)
  where
    asked_same : (p q : Asked) → accepted p ≡ accepted q → q ≡ p
    asked_same p q z = cc

-- a use of a written step, asked again
pub record IsAskedAgain (es : List WrittenStep) (x : Asked) : Type 0 where
  pub step : WrittenStep
  pub at : slice_get es x.step ≡ Some step
  pub use_ : Use
  pub by : step.by ≡ Some use_
  pub is : x ≡ asked x.step use_.assertion step.places

pub asked_again : (es : List WrittenStep) (x : Asked) → Contains (accepted_in (judgements_from 0 es)) x → IsAskedAgain es x
asked_again es x m =
    let r = from_filter_map asked_of (judgements_from 0 es) x m in
    let k = contains_get (judgements_from 0 es) r.0 r.1 in
    let e = judgement_there 0 es k.0 r.0 k.1 in
    let u = judged_by (0 + k.0) e.0 e.0.by x (sym e.2 ∙ asked_is r.0 x r.2) in
    let place : 0 + k.0 ≡ k.0 = omega arith in
    let step_is : x.step ≡ k.0 = ap (λ (z : Asked). z.step) u.2 ∙ place in
    record {
      step = e.0;
      at = ap (slice_get es) step_is ∙ e.1;
      use_ = u.0;
      by = u.1;
      is = u.2 ∙ ap (λ n. asked n u.0.assertion e.0.places) (sym (ap (λ (z : Asked). z.step) u.2));
    }

module _ (db : Database) (options : Options) (w : Writing) (numbers : List ℕ) (ds : List WrittenStep) (S : Setting db options w numbers ds) where
  abbrev es : List WrittenStep
  es = written_steps db options w numbers ds S

  abbrev pub second_bound : Bound
  second_bound = written_bound db options w

  abbrev pub second : List Asked
  second = accepted_in (judgements_from 0 es)

  abbrev pub second_value : Valuation
  second_value = value_again es

  abbrev On : Unknown → Type 0
  On = IsUnknown second_bound second

  abbrev place : ℕ
  place = w.bound.place

  pub step_again : (k : ℕ) (e : WrittenStep) → slice_get es k ≡ Some e → slice_get second_bound.steps k ≡ Some (bound_step db options w e)
  step_again k e at = get_map (bound_step db options w) es k e at

  pub step_back : (k : ℕ) (b : BoundStep) → slice_get second_bound.steps k ≡ Some b → (e : WrittenStep) × (slice_get es k ≡ Some e) × (bound_step db options w e ≡ b)
  step_back k b at = get_mapped (bound_step db options w) es k b at

  -- the formula of a step, by a valuation
  pub second_formula : (v : Valuation) (k : ℕ) (t : Tree) → slice_get (trees es) k ≡ Some t → formula second_bound v k ≡ replace (λ s c. Var s c) (open_value v) t
  second_formula v k t at =
      let e = get_mapped (λ (x : WrittenStep). x.tree) es k t at in
      let tree : (slice_index_or second_bound.steps k no_step).tree ≡ Some t =
      ap (λ (b : BoundStep). b.tree) (index_from_get second_bound.steps k (bound_step db options w e.0) no_step (step_again k e.0 e.1))
      ∙ ap (λ x. Some x) e.2 in
      ap (formula_value v k) tree

  pub copy_value : (i : ℕ) (e : WrittenStep) (u : Use) → slice_get es i ≡ Some e → e.by ≡ Some u → (s : Sym) (c : Typecode) → second_value (copy i s c) ≡ value_of u s
  copy_value i e u at by s c = let found : use_at es i ≡ Some u = rw at by in rw found refl

  same_open : (x : Open) → open_value second_value x ≡ leaf_tree x
  same_open (work c n) = refl
  same_open (fresh c n) = refl

  again_formula : (k : ℕ) (t : Tree) → slice_get (trees es) k ≡ Some t → formula second_bound second_value k ≡ t
  again_formula k t at = second_formula second_value k t at ∙ replace-agree (λ s c. Var s c) (λ s c. Var s c) (open_value second_value) leaf_tree (λ s c. refl) t (λ x o. same_open x) ∙ replace-self t

  again_instance : (i : ℕ) (e : WrittenStep) (u : Use) → slice_get es i ≡ Some e → e.by ≡ Some u → (t : Tree) → instance second_value i t ≡ valued u t
  again_instance i e u at by t = replace-agree (λ s c. second_value (copy i s c)) (λ s c. value_of u s) leaf_tree leaf_tree (copy_value i e u at by) t (λ x o. refl)

  pub tree_of : (k : ℕ) (e : WrittenStep) → slice_get es k ≡ Some e → slice_get (trees es) k ≡ Some e.tree
  tree_of k e at = get_map (λ (x : WrittenStep). x.tree) es k e at

  whole_use : (i : ℕ) (e : WrittenStep) (u : Use) → IsUse db options w numbers ds S i e u → IsWhole u.assertion
  whole_use i e u h = S.whole h.candidate_is.label u.assertion h.candidate_is.usable

  -- ---- the written values are a valuation and solve

  module _ (x : Asked) (m : Contains second x) where
    pub its : IsAskedAgain es x
    its = asked_again es x m

    abbrev e : WrittenStep
    e = its.step

    abbrev u : Use
    u = its.use_

    pub its_use : IsUse db options w numbers ds S x.step e u
    its_use = use_written db options w numbers ds S x.step e u its.at its.by

    pub its_assertion : x.assertion ≡ u.assertion
    its_assertion = ap (λ (z : Asked). z.assertion) its.is

    pub its_places : x.places ≡ e.places
    its_places = ap (λ (z : Asked). z.places) its.is

    places_again : (gs : List Given) (hs : List Tree) → PlacesHold (trees es) u gs hs → PlacesFit second_bound second_value x.step gs hs
    places_again [] hs h = tt
    places_again (y ∷ gs) [] h = absurd h
    places_again (given.Gap ∷ gs) (t ∷ hs) h = places_again gs hs h
    places_again (given.Step k ∷ gs) (t ∷ hs) h = (again_instance x.step e u its.at its.by t ∙ sym (again_formula k (valued u t) h.0), places_again gs hs h.1)

    solves_again : Solves second_bound second_value x
    solves_again = record {
      conclusion =
          ap (λ (a : Assertion). instance second_value x.step a.tree) its_assertion ∙ again_instance x.step e u its.at its.by u.assertion.tree ∙ its_use.conclusion
          ∙ sym (again_formula x.step e.tree (tree_of x.step e its.at));
      places =
          subst (λ gs. PlacesFit second_bound second_value x.step gs x.assertion.hyps) (sym its_places)
          (subst (λ (a : Assertion). PlacesFit second_bound second_value x.step e.places a.hyps) (sym its_assertion) (places_again e.places u.assertion.hyps its_use.places));
    }

    value_typed : (v : TypedVariable) → Contains x.assertion.vars v → (code_of (second_value (copy x.step v.sym v.code)) ≡ v.code) × IsTyped db.rows place (second_value (copy x.step v.sym v.code))
    value_typed v o =
        let own : Contains u.assertion.vars v = subst (λ (a : Assertion). Contains a.vars v) its_assertion o in
        let value = copy_value x.step e u its.at its.by v.sym v.code in
        (ap code_of value ∙ its_use.codes v own, subst (IsTyped db.rows place) (sym value) (its_use.typed v own))

  pub all_solve : AllByRecursion (Solves second_bound second_value) second
  all_solve = all_from (Solves second_bound second_value) second solves_again

  pub no_blank : (k : ℕ) (b : BoundStep) → slice_get second_bound.steps k ≡ Some b → b.tree ≡ None → ⊥
  no_blank k b at is = let r = step_back k b at in none r.0.tree (ap (λ (z : BoundStep). z.tree) r.2 ∙ is)
    where
      none : (t : Tree) → Some t ≡ None → ⊥
      none t q = cc

  code_again : (z : Unknown) → On z → code_of (second_value z) ≡ unknown_code db z
  code_again (named c n) on = code-Work c n
  code_again (blank k) (IsUnknown.is_blank b at is) = absurd (no_blank k b at is)
  code_again (copy i s c) (IsUnknown.in_frame x v m o) = (value_typed x m v o).0

  typed_again : (z : Unknown) → On z → IsTyped db.rows place (second_value z)
  typed_again (named c n) on = typed-Work db.rows place c n
  typed_again (blank k) (IsUnknown.is_blank b at is) = absurd (no_blank k b at is)
  typed_again (copy i s c) (IsUnknown.in_frame x v m o) = (value_typed x m v o).1

  pub is_valuation : IsValuation db place On second_value
  is_valuation = record { code = code_again; typed = typed_again }
