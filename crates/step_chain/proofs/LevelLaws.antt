-- One step more.
use Rattle.std.specs.Prelude.{◌≡◌, ℕ, ◌<◌, ◌≤◌, ◌+◌, List, [], ◌∷◌, ◌++◌, length, map, take, slice_get, Contains, Option, Some, None, refl}
use Rattle.std.proofs.Common.{zero, suc, sym, ap, subst, ◌∙◌, arith, inl, inr}
use Rattle.std.proofs.lemmas.Bool.{cases_lt, cases_eq}
use Rattle.std.proofs.lemmas.List.{append-nil, length-append, length_push, take-append-le}
use Rattle.std.proofs.lemmas.List.Elements.{filter_map-append}
use Rattle.std.proofs.Math.Seq.{take-append_seam}
use Rattle.mm_base.specs.declared.symbols.Sym.{Sym}
use Rattle.mm_base.specs.declared.symbols.Typecode.{Typecode}
use Rattle.mm_base.specs.declared.tree.Tree.{Tree}
use Rattle.mm_model.specs.Book.{Database, Assertion}
use Rattle.mm_database.specs.Opened.{Opened}
use Rattle.solve_model.specs.declared.bound.BoundStep.{BoundStep}
use Rattle.solve_model.specs.declared.bound.Bound.{Bound}
use Rattle.solve_model.specs.declared.verdict.Verdict.{Verdict}
use Rattle.solve_model.specs.Bound.{standing}
use Rattle.solve_model.specs.Solutions.{Unknown, named, blank, copy, IsUnknown, in_formula, is_blank, in_frame, Asked}
use Rattle.solve_model.specs.Verdicts.{Judgement, accepted, stands, asked_of, accepted_in, IsJudgement}
use Rattle.term_model.specs.declared.shape.Id.{Id}
use Rattle.term_model.specs.Terms.{Term}
use Rattle.term_model.specs.Links.{Link}
use Rattle.term_model.specs.Store.{tree_at}
use Rattle.chain_laws.specs.declared.leaves.WorkNode.{WorkNode}
use Rattle.term_model.specs.Sizes.{HaveConstants}
use Rattle.chain_laws.specs.Adding.{constants_in}
use Rattle.chain_laws.specs.Layout.{Layout, IsChained, AreFormulaNodes, IsInstanceNode, IsSoundAsked, IsOver, valuation_of}
use Rattle.chain_laws.proofs.Agreement.{instance_same}
use Rattle.chain_laws.proofs.Grown.{fit_front}
use Rattle.step_chain.specs.declared.judged.Accepted.{Accepted}
use Rattle.step_chain.specs.declared.judged.Judged.{Judged}
use Rattle.step_chain.specs.declared.judged.Judged.TheVariants.{Stands, Fits}
use Rattle.step_chain.specs.declared.judged.Pushed.{Pushed}
use Rattle.step_chain.specs.Standings.{usable_in}
use Rattle.step_chain.specs.Ordered.{formula_at}
use Rattle.step_chain.specs.Steps.{asked_by, accepted_by, judgement_of, judgements_from}
use Rattle.step_chain.specs.Sizes.{size_of_front}
use Rattle.step_chain.proofs.CountLaws.{front_rises}
use Rattle.step_chain.specs.Levels.{AreKeptNodes, IsKeptStep, AreEachJudged, AreBefore, IsLevel}
use Rattle.step_chain.proofs.Lists.{get_front, get_seam, get_past, all_has, all_join, all_weaker, zip_weaker}

-- ---- the judgements of one step more

module _ (d : Opened) (bound : Bound) where
  pub judgements_push : (i : ℕ) (ps : List Pushed) (p : Pushed) → judgements_from d bound i (ps ++ p ∷ []) ≡ judgements_from d bound i ps ++ judgement_of d bound (i + length ps) p.judged ∷ []
  judgements_push i [] p = let number : i ≡ i + 0 = omega arith in ap (λ (k : ℕ). judgement_of d bound k p.judged ∷ []) number
  judgements_push i (q ∷ ps) p =
      let number : suc i + length ps ≡ i + length (q ∷ ps) = omega arith in
      ap (λ (js : List Judgement). judgement_of d bound i q.judged ∷ js)
      (judgements_push (suc i) ps p ∙ ap (λ (k : ℕ). judgements_from d bound (suc i) ps ++ judgement_of d bound k p.judged ∷ []) number)

  pub length-judgements : (i : ℕ) (ps : List Pushed) → length (judgements_from d bound i ps) ≡ length ps
  length-judgements i [] = refl
  length-judgements i (p ∷ ps) = let rest = length-judgements (suc i) ps in omega (arith, rest)

  pub judgement_at : (i : ℕ) (ps : List Pushed) (k : ℕ) (p : Pushed) → slice_get ps k ≡ Some p → slice_get (judgements_from d bound i ps) k ≡ Some (judgement_of d bound (i + k) p.judged)
  judgement_at i [] k p e = let impossible : ◌≡◌ {A = Option Pushed} None (Some p) = e in absurd (cc)
  judgement_at i (q ∷ ps) zero p e =
      let same : q ≡ p = cc in
      let number : i ≡ i + 0 = omega arith in
      ap (λ (r : Pushed). Some (judgement_of d bound i r.judged)) same ∙ ap (λ (k : ℕ). Some (judgement_of d bound k p.judged)) number
  judgement_at i (q ∷ ps) (suc k) p e =
      let number : suc i + k ≡ i + suc k = omega arith in
      judgement_at (suc i) ps k p e ∙ ap (λ (j : ℕ). Some (judgement_of d bound j p.judged)) number

  -- the judgement of a step that fits
  pub judgement_fits : (i : ℕ) (j : Judged) (x : Accepted) (a : Assertion) → j ≡ Fits x → usable_in d x.label ≡ Some a → judgement_of d bound i j ≡ accepted (asked_by bound i x a)
  judgement_fits i j x a e u = ap (judgement_of d bound i) e ∙ ap (accepted_by bound i x) u

pub among : (js : List Judgement) (k : ℕ) (x : Asked) → slice_get js k ≡ Some (accepted x) → Contains (accepted_in js) x
among [] k x e = let impossible : ◌≡◌ {A = Option Judgement} None (Some (accepted x)) = e in absurd (cc)
among (j ∷ js) zero x e = let same : accepted x ≡ j = cc in subst (λ (o : Judgement). Contains (accepted_in (o ∷ js)) x) same (0, omega arith, refl)
among (accepted y ∷ js) (suc k) x e = let rest = among js k x e in (suc rest.0, omega (arith, rest.1), rest.2)
among (stands v ∷ js) (suc k) x e = among js k x e

-- ---- each is judged

module _ (db : Database) (bound : Bound) where
  pub each_more : (js : List Judgement) (o : Judgement) → AreEachJudged db bound js
      → ((s : BoundStep) → slice_get bound.steps (length js) ≡ Some s → IsJudgement db bound (accepted_in js) (length js) s (standing db bound.place s) o) → AreEachJudged db bound (js ++ o ∷ [])
  each_more js o each last i s q at is = elim (cases_lt i (length js)) [
    | inl below ↦
        subst (λ (front : List Judgement). IsJudgement db bound (accepted_in front) i s (standing db bound.place s) q) (sym (take-append-le i js (o ∷ []) (omega (arith, below))))
        (each i s q at (sym (get_front js (o ∷ []) i below) ∙ is))
    | inr past ↦ elim (cases_eq i (length js)) [
      | inl same ↦
          let value : o ≡ q = let one = get_seam js o in let two : slice_get (js ++ o ∷ []) (length js) ≡ Some q = subst (λ (k : ℕ). slice_get (js ++ o ∷ []) k ≡ Some q) same is in cc in
          let here = last s (subst (λ (k : ℕ). slice_get bound.steps k ≡ Some s) same at) in
          let moved =
          subst (λ (front : List Judgement). IsJudgement db bound (accepted_in front) (length js) s (standing db bound.place s) q)
          (sym (take-append_seam js (o ∷ [])))
          (subst (IsJudgement db bound (accepted_in js) (length js) s (standing db bound.place s)) value here) in
          subst (λ (k : ℕ). IsJudgement db bound (accepted_in (take k (js ++ o ∷ []))) k s (standing db bound.place s) q) (sym same) moved
      | inr apart ↦ absurd (get_past (js ++ o ∷ []) i q (omega (arith, past, apart, length_push js o)) is)
    ]
  ]

-- ---- the nodes that are kept stay

module _ (bound : Bound) (before : List Asked) (nodes more : List Term) (lay lay' : Layout) (same : (u : Unknown) → IsUnknown bound before u → lay'.node_of u ≡ lay.node_of u) where
  instance_stays : (x : Asked) → Contains before x → (t : Tree) (j : ℕ) → IsOver x.assertion.vars t → IsInstanceNode nodes lay x.step t j → IsInstanceNode (nodes ++ more) lay' x.step t j
  instance_stays x is t j over h = record {
    within = let all = length-append nodes more in let below = h.within in omega (arith, all, below);
    is_instance = λ us f.
        h.is_instance us (fit_front nodes more us f) ∙ instance_same bound before (valuation_of lay us) (valuation_of lay' us) (λ u on. ap (tree_at us) (sym (same u on))) x is t over;
  }

  pub kept_stays : (i : ℕ) (x : Accepted) (a : Assertion) → Contains before (asked_by bound i x a) → IsSoundAsked bound (asked_by bound i x a)
      → AreKeptNodes nodes lay i x a → AreKeptNodes (nodes ++ more) lay' i x a
  kept_stays i x a is sound h = record {
    hyps =
        zip_weaker (IsOver a.vars) (IsInstanceNode nodes lay i) (IsInstanceNode (nodes ++ more) lay' i)
        (λ t j over one. instance_stays (asked_by bound i x a) is t j over one) a.hyps (map (λ (id : Id). id.0) x.hyps) sound.hyps h.hyps;
    copies = λ v o. h.copies v o ∙ ap (λ (n : ℕ). Some n) (sym (same (copy i v.sym v.code) (in_frame (asked_by bound i x a) v is o)));
    found = h.found;
    order = h.order;
  }

-- ---- one step more

module _ (db : Database) (d : Opened) (bound : Bound) (works : List WorkNode) (formulas : List Id) (steps : List Pushed) (p : Pushed)
    (nodes : List Term) (links : List Link) (level : IsLevel db d bound works formulas steps nodes links) where
  abbrev pub js : List Judgement
  js = judgements_from d bound 0 steps

  abbrev pub i : ℕ
  i = length steps

  pub count_is : length js ≡ i
  count_is = length-judgements d bound 0 steps

  module _ (o : Judgement) (is_judged : judgement_of d bound i p.judged ≡ o) where
    pub pushed_is : judgements_from d bound 0 (steps ++ p ∷ []) ≡ js ++ o ∷ []
    pushed_is =
        let number : 0 + length steps ≡ i = omega arith in
        judgements_push d bound 0 steps p ∙ ap (λ (k : ℕ). js ++ judgement_of d bound k p.judged ∷ []) number ∙ ap (λ (q : Judgement). js ++ q ∷ []) is_judged

    accepted_is : accepted_in (judgements_from d bound 0 (steps ++ p ∷ [])) ≡ accepted_in js ++ accepted_in (o ∷ [])
    accepted_is = ap accepted_in pushed_is ∙ filter_map-append asked_of js (o ∷ [])

    each_pushed : ((s : BoundStep) → slice_get bound.steps i ≡ Some s → IsJudgement db bound (accepted_in js) i s (standing db bound.place s) o)
        → AreEachJudged db bound (judgements_from d bound 0 (steps ++ p ∷ []))
    each_pushed last =
        subst (AreEachJudged db bound) (sym pushed_is)
        (each_more db bound js o level.each
        (subst
        (λ (k : ℕ). (s : BoundStep) → slice_get bound.steps k ≡ Some s
        → IsJudgement db bound (accepted_in js) k s (standing db bound.place s) o)
        (sym count_is) last))

    -- the store and what is kept, for what is accepted now
    module _ (accepted_now : List Asked) (is_now : accepted_in js ++ accepted_in (o ∷ []) ≡ accepted_now) (nodes' : List Term) (links' : List Link) (layout : Layout)
        (chained : IsChained db bound accepted_now accepted_now nodes' links' layout)
        (formula_nodes : AreFormulaNodes bound nodes' layout (λ k. (formula_at formulas k).0)) (works_are : layout.works ≡ works)
        (before : AreBefore (length (steps ++ p ∷ [])) accepted_now)
        (last : (s : BoundStep) → slice_get bound.steps i ≡ Some s → IsJudgement db bound (accepted_in js) i s (standing db bound.place s) o)
        (old : (k : ℕ) (q : Pushed) (x : Accepted) → slice_get steps k ≡ Some q → q.judged ≡ Fits x → IsKeptStep d nodes' layout k x)
        (new : (x : Accepted) → p.judged ≡ Fits x → IsKeptStep d nodes' layout i x) (constants : HaveConstants (constants_in d.rows) nodes')
        (few : length nodes' ≤ size_of_front db bound (length (steps ++ p ∷ []))) where
      abbrev Now : List Asked → Type 0
      Now xs = IsChained db bound xs xs nodes' links' layout

      now_is : accepted_now ≡ accepted_in (judgements_from d bound 0 (steps ++ p ∷ []))
      now_is = sym (accepted_is ∙ is_now)

      kept_by : (k : ℕ) (q : Pushed) (x : Accepted) → slice_get (steps ++ p ∷ []) k ≡ Some q → q.judged ≡ Fits x → IsKeptStep d nodes' layout k x
      kept_by k q x at is = elim (cases_lt k (length steps)) [
        | inl below ↦ old k q x (sym (get_front steps (p ∷ []) k below) ∙ at) is
        | inr past ↦ elim (cases_eq k (length steps)) [
          | inl same ↦
              let it : p ≡ q = let one = get_seam steps p in let two : slice_get (steps ++ p ∷ []) (length steps) ≡ Some q = subst (λ (n : ℕ). slice_get (steps ++ p ∷ []) n ≡ Some q) same at in cc in
              subst (λ (n : ℕ). IsKeptStep d nodes' layout n x) (sym same) (new x (ap (λ (r : Pushed). r.judged) it ∙ is))
          | inr apart ↦ absurd (get_past (steps ++ p ∷ []) k q (omega (arith, past, apart, length_push steps p)) at)
        ]
      ]

      pub level_more : IsLevel db d bound works formulas (steps ++ p ∷ []) nodes' links'
      level_more = record {
        layout = layout;
        chained = subst Now now_is chained;
        formula_nodes = formula_nodes;
        works_are = works_are;
        before = subst (AreBefore (length (steps ++ p ∷ []))) now_is before;
        each = each_pushed last;
        kept = kept_by;
        constants = constants;
        few = few;
      }

  -- ---- a step that stands

  before_more : (xs : List Asked) → AreBefore i xs → AreBefore (length (steps ++ p ∷ [])) xs
  before_more xs h = all_weaker (λ (x : Asked). x.step < i) (λ (x : Asked). x.step < length (steps ++ p ∷ [])) (λ x below. let long = length_push steps p in omega (arith, below, long)) xs h

  few_more : length nodes ≤ size_of_front db bound (length (steps ++ p ∷ []))
  few_more =
      let long = length_push steps p in
      let rises = front_rises db bound i in
      let same = ap (size_of_front db bound) long in
      omega (arith, rises, same, level.few)

  module _ (v : Verdict) (is : p.judged ≡ Stands v) where
    fits_no : (x : Accepted) → p.judged ≡ Fits x → ⊥
    fits_no x e = let impossible : Stands v ≡ Fits x = sym is ∙ e in absurd (cc)

    pub level_stands : ((s : BoundStep) → slice_get bound.steps i ≡ Some s
        → IsJudgement db bound (accepted_in js) i s (standing db bound.place s) (stands v))
        → IsLevel db d bound works formulas (steps ++ p ∷ []) nodes links
    level_stands last =
        level_more (stands v) (ap (judgement_of d bound i) is) (accepted_in js) (append-nil (accepted_in js)) nodes links level.layout level.chained level.formula_nodes level.works_are
        (before_more (accepted_in js) level.before) last level.kept (λ x e. absurd (fits_no x e)) level.constants few_more

  -- ---- a step that is accepted

  -- a step of a number has no copies yet
  step_of : Unknown → ℕ
  step_of (named c n) = 0
  step_of (blank k) = 0
  step_of (copy k s c) = k

  no_copy : (u : Unknown) → IsUnknown bound (accepted_in js) u → (s : Sym) (c : Typecode) → u ≡ copy i s c → ⊥
  unfolding step_of
  no_copy u (in_formula k t y at is o) s c e = let impossible : named _ _ ≡ copy i s c = e in absurd (cc)
  no_copy u (is_blank t at is) s c e = let impossible : blank _ ≡ copy i s c = e in absurd (cc)
  no_copy u (in_frame x v h o) s c e =
      let below = all_has (λ (y : Asked). y.step < i) (accepted_in js) x level.before h in
      let same : x.step ≡ i = ap step_of e in
      absurd (omega (arith, below, same))

  pub fresh : (s : Sym) (c : Typecode) → IsUnknown bound (accepted_in js) (copy i s c) → ⊥
  fresh s c on = no_copy (copy i s c) on s c refl

  -- what is accepted of a step of the list
  pub accepted_at : (k : ℕ) (q : Pushed) (x : Accepted) (a : Assertion) → slice_get steps k ≡ Some q → q.judged ≡ Fits x
      → usable_in d x.label ≡ Some a → Contains (accepted_in js) (asked_by bound k x a)
  accepted_at k q x a at is u = let number : 0 + k ≡ k = omega arith in
      among js k (asked_by bound k x a)
      (judgement_at d bound 0 steps k q at ∙ ap (λ (n : ℕ). Some (judgement_of d bound n q.judged)) number
      ∙ ap (λ (o : Judgement). Some o) (judgement_fits d bound k q.judged x a is u))

  module _ (more : List Term) (links' : List Link) (lay' : Layout) (x : Accepted) (a : Assertion) (is : p.judged ≡ Fits x) (usable : usable_in d x.label ≡ Some a)
      (same : (u : Unknown) → IsUnknown bound (accepted_in js) u → lay'.node_of u ≡ level.layout.node_of u) (same_works : lay'.works ≡ level.layout.works)
      (chained : IsChained db bound (accepted_in js ++ asked_by bound i x a ∷ []) (accepted_in js ++ asked_by bound i x a ∷ []) (nodes ++ more) links' lay')
      (formula_nodes : AreFormulaNodes bound (nodes ++ more) lay' (λ k. (formula_at formulas k).0)) (kept : AreKeptNodes (nodes ++ more) lay' i x a)
      (constants : HaveConstants (constants_in d.rows) (nodes ++ more))
      (few : length (nodes ++ more) ≤ size_of_front db bound (length (steps ++ p ∷ [])))
      (last : (s : BoundStep) → slice_get bound.steps i ≡ Some s → IsJudgement db bound (accepted_in js) i s (standing db bound.place s) (accepted (asked_by bound i x a))) where
    before_now : AreBefore (length (steps ++ p ∷ [])) (accepted_in js ++ asked_by bound i x a ∷ [])
    before_now =
        all_join (λ (y : Asked). y.step < length (steps ++ p ∷ [])) (accepted_in js) (asked_by bound i x a ∷ [])
        (before_more (accepted_in js) level.before) (let long = length_push steps p in omega (arith, long), tt)

    own_kept : (y : Accepted) → p.judged ≡ Fits y → IsKeptStep d (nodes ++ more) lay' i y
    own_kept y e =
        let it : x ≡ y = let both : Fits x ≡ Fits y = sym is ∙ e in cc in
        subst (IsKeptStep d (nodes ++ more) lay' i) it (record { assertion = a; usable = usable; nodes_are = kept })

    old_kept : (k : ℕ) (q : Pushed) (y : Accepted) → slice_get steps k ≡ Some q → q.judged ≡ Fits y → IsKeptStep d (nodes ++ more) lay' k y
    old_kept k q y at e =
        let told = level.kept k q y at e in
        let b = told.assertion in
        let there = accepted_at k q y b at e told.usable in
        record {
          assertion = b;
          usable = told.usable;
          nodes_are =
              kept_stays bound (accepted_in js) nodes more level.layout lay' same k y b there
              (all_has (IsSoundAsked bound) (accepted_in js) (asked_by bound k y b) level.chained.sound there) told.nodes_are;
        }

    pub level_fits : IsLevel db d bound works formulas (steps ++ p ∷ []) (nodes ++ more) links'
    level_fits =
        level_more (accepted (asked_by bound i x a)) (judgement_fits d bound i p.judged x a is usable)
        (accepted_in js ++ asked_by bound i x a ∷ []) refl (nodes ++ more) links' lay' chained formula_nodes
        (same_works ∙ level.works_are) before_now last
        old_kept own_kept constants few
