-- A choice that serves a step is an added use.
use Rattle.std.specs.Prelude.{◌≡◌, ◌⊎◌, ◌<◌, ◌+◌, ◌&&◌, not, ℕ, zero, suc, Bool, true, false, List, [], ◌∷◌, length, map, take, is_none, Contains, slice_get, Option, Some, None, refl}
use Rattle.std.specs.List.{AllByRecursion, range_with_len}
use Rattle.std.specs.Option.{option_map_or}
use Rattle.std.proofs.Common.{sym, ap, subst, ◌∙◌, arith, inl, inr}
use Rattle.std.proofs.lemmas.Bool.{and_parts}
use Rattle.mm_base.specs.declared.symbols.Label.{Label}
use Rattle.mm_base.specs.declared.tree.Tree.{Tree}
use Rattle.mm_model.specs.Names.{Name, label}
use Rattle.mm_model.specs.BookFacts.{IsDatabase}
use Rattle.mm_model.specs.Statements.{is_empty}
use Rattle.mm_model.specs.Book.{Database}
use Rattle.mm_model.proofs.NameLaws.{label_back}
use Rattle.sheet_text.specs.declared.sheet.Given.TheVariants as given
use Rattle.solve_model.specs.declared.bound.BoundStep.{BoundStep}
use Rattle.solve_model.specs.declared.verdict.Verdict.TheVariants as verdict
use Rattle.solve_model.specs.Bound.{settled, standing}
use Rattle.solve_model.specs.Verdicts.{accepted_in, IsJudgement, AreJudged}
use Rattle.solve_laws.specs.Instances.{IsClosedTree}
use Rattle.solve_laws.proofs.Elements.{nothing, parted}
use Rattle.written_model.specs.declared.options.Options.{Options}
use Rattle.written_model.specs.WrittenSteps.{Use, WrittenStep, steps_in, trees}
use Rattle.written_model.specs.Fitting.{all_labels}
use Rattle.written_model.specs.Found.{Choice, Fits, is_ground}
use Rattle.written_model.specs.Written.{Writing, bound_step, written_bound, written_step}
use Rattle.written_model.specs.Again.{judgement_by, judgements_from}
use Rattle.again_laws.proofs.Candidates.{told}
use Rattle.again_laws.proofs.Lists.{contains_mapped, get_map, get_mapped}
use Rattle.again_laws.proofs.Orders.{first_stands, from_flat_map}
use Rattle.again_laws.proofs.ValuesStay.{judgement_here}
use Rattle.push_laws.proofs.ReadHyps.{filter_from}
use Rattle.push_laws.proofs.StepLaw.{ground_closed}
use Rattle.auto_model.specs.AutoFilled.{is_unfilled, is_ground_number, earlier_steps, tuples, step_tuples, choice_of, auto_choices, IsAutoChoice, IsFilled}
use Rattle.auto_laws.proofs.Added.{AreGroundBefore, with_use, IsAdded}

pub ground_tree : (t : Tree) → is_ground t ≡ true → IsClosedTree t
ground_tree t e x o = nothing x (subst (λ xs. Contains xs x) (ground_closed t e) o)

range_below : (a n k : ℕ) → Contains (range_with_len a n) k → k < a + n
range_below a zero k m = absurd (nothing k m)
range_below a (suc n) k m = elim (parted k a (range_with_len (a + 1) n) m) [
  | inl e ↦ omega (arith, e)
  | inr r ↦ let high = range_below (a + 1) n k r in omega (arith, high)
]

-- ---- tuples

tuple_within : {X : Type 0} (n : ℕ) (xs ys : List X) → Contains (tuples n xs) ys → AllByRecursion (Contains xs) ys
tuple_within zero xs ys m = elim (parted ys [] [] m) [ inl e ↦ subst (AllByRecursion (Contains xs)) e tt | inr r ↦ absurd (nothing ys r) ]
tuple_within (suc n) xs ys m =
    let r = from_flat_map (λ x. map (λ more. x ∷ more) (tuples n xs)) xs ys m in
    let q = contains_mapped (λ more. r.0 ∷ more) (tuples n xs) ys r.2 in
    subst (AllByRecursion (Contains xs)) q.2 (r.1, tuple_within n xs q.0 q.1)

steps_within : (earlier ks : List ℕ) → Contains (step_tuples earlier) ks → AllByRecursion (Contains earlier) ks
steps_within earlier ks m = let r = from_flat_map (λ n. tuples n earlier) (1 ∷ 2 ∷ 3 ∷ []) ks m in tuple_within r.0 earlier ks r.2

-- what a choice of the list is made of
pub record IsMade (db : Database) (earlier : List ℕ) (c : Choice) : Type 0 where
  pub numbers : List ℕ
  pub within : AllByRecursion (Contains earlier) numbers
  pub places : c.places ≡ map (λ k. given.Step k) numbers
  pub label_within : c.label.0 < length db.labels

choice_made : (db : Database) (earlier : List ℕ) (c : Choice) → Contains (auto_choices db earlier) c → IsMade db earlier c
choice_made db earlier c m =
    let r = from_flat_map (λ l. map (choice_of l) (step_tuples earlier)) (all_labels db) c m in
    let q = contains_mapped (choice_of r.0) (step_tuples earlier) c r.2 in
    let n = contains_mapped label (range_with_len 0 (length db.labels)) r.0 r.1 in
    let less = range_below 0 (length db.labels) n.0 n.1 in
    let same : n.0 ≡ c.label.0 = ap (λ (l : Label). l.0) (n.2 ∙ ap (λ (x : Choice). x.label) q.2) in
    record { numbers = q.0; within = steps_within earlier q.0 q.1; places = ap (λ (x : Choice). x.places) (sym q.2); label_within = omega (arith, less, same) }

-- ---- an added use

module _ (db : Database) (options : Options) (w : Writing) (facts : IsDatabase db) (judged : AreJudged db (written_bound db options w) (judgements_from 0 (steps_in w.items))) where
  abbrev es : List WrittenStep
  es = steps_in w.items

  zero_plus : (n : ℕ) → 0 + n ≡ n
  zero_plus n = omega arith

  -- a step without a reference has no use
  no_use : (k : ℕ) (e : WrittenStep) → slice_get es k ≡ Some e → e.hyp ≡ false → e.reference ≡ None → e.by ≡ None
  no_use k e at h r = by e.by refl
    where
      s : BoundStep
      s = bound_step db options w e

      stands_so : standing db w.bound.place (bound_step db options w e) ≡ settled verdict.NoRef
      stands_so = rw (h, r) refl

      by : (o : Option Use) → e.by ≡ o → e.by ≡ None
      by None is = is
      by (Some u) is =
          let j = judged.each k (bound_step db options w e) (judgement_by (0 + k) e e.by) (get_map (bound_step db options w) es k e at) (judgement_here 0 es k e at) in
          let t = told db (written_bound db options w) (accepted_in (take k (judgements_from 0 es))) k (bound_step db options w e) (settled verdict.NoRef) (judgement_by (0 + k) e (Some u))
          (subst (λ o. IsJudgement db (written_bound db options w) (accepted_in (take k (judgements_from 0 es))) k (bound_step db options w e) (settled verdict.NoRef) (judgement_by (0 + k) e o)) is
          (subst (λ st. IsJudgement db (written_bound db options w) (accepted_in (take k (judgements_from 0 es))) k (bound_step db options w e) st (judgement_by (0 + k) e e.by)) stands_so j)) in
          absurd t

  ground_before : (n : ℕ) (ks : List ℕ) → AllByRecursion (Contains (earlier_steps es n)) ks → AreGroundBefore db w.bound.place options.dv w.bound.pairs es n (map (λ k. given.Step k) ks)
  ground_before n [] h = tt
  ground_before n (k ∷ ks) h =
      let r = filter_from (is_ground_number es) (range_with_len 0 n) k h.0 in
      let less = range_below 0 n k r.0 in
      (omega (arith, less), (λ t at. closed t at r.1), ground_before n ks h.1)
    where
      closed : (t : Tree) → slice_get (trees es) k ≡ Some t → is_ground_number es k ≡ true → IsClosedTree t
      closed t at g =
          let e = get_mapped (λ (x : WrittenStep). x.tree) es k t at in
          ground_tree t (ap is_ground (sym e.2) ∙ ap (λ o. option_map_or (λ (x : WrittenStep). is_ground x.tree) o false) (sym e.1) ∙ g)

  -- what an unfilled step is
  record IsOpen (e : WrittenStep) : Type 0 where
    not_hyp : e.hyp ≡ false
    no_reference : e.reference ≡ None
    closed : IsClosedTree e.tree

  unfilled : (e : WrittenStep) → (is_none e.reference && is_unfilled e) ≡ true → IsOpen e
  unfilled e h =
      let one = and_parts (is_none e.reference) (is_unfilled e) h in
      let two = and_parts (not e.hyp && is_empty e.places) (is_ground e.tree) one.1 in
      let three = and_parts (not e.hyp) (is_empty e.places) two.0 in
      record { not_hyp = flip e.hyp three.0; no_reference = empty e.reference one.0; closed = ground_tree e.tree two.1 }
    where
      flip : (b : Bool) → not b ≡ true → b ≡ false
      flip true q = absurd cc
      flip false q = refl

      empty : (o : Option Name) → is_none o ≡ true → o ≡ None
      empty None q = refl
      empty (Some n) q = absurd cc

  -- it is not to be filled, or no choice serves it
  abbrev pub IsDone : ℕ → WrittenStep → Type 0
  IsDone k f = ((is_none f.reference && is_unfilled f) ≡ false) ⊎ IsAutoChoice db options w k f None

  -- the step with the use that it is filled with
  pub record IsUsed (k : ℕ) (e f : WrittenStep) : Type 0 where
    pub used : WrittenStep
    pub is : IsAdded db w.bound.place options.dv w.bound.pairs es k e used
    pub done : IsDone k used
    pub same : written_step db used ≡ written_step db f

  pub step_used : (k : ℕ) (e f : WrittenStep) → slice_get es k ≡ Some e → IsFilled db options w k e f → IsUsed k e f
  step_used k e _ at (IsFilled.stays h) = record { used = e; is = IsAdded.stays; done = inl h; same = refl }
  step_used k e _ at (IsFilled.none h c) = record { used = e; is = IsAdded.stays; done = inr c; same = refl }
  step_used k e _ at (IsFilled.filled c h first) =
      let open_step = unfilled e h in
      let chosen = first_stands (Fits db w.bound.place options.dv w.bound.pairs es e) (auto_choices db (earlier_steps es k)) c first in
      let made = choice_made db (earlier_steps es k) c chosen.0 in
      let u = chosen.1.0 in
      record {
        used = with_use db w.bound.place options.dv w.bound.pairs es e c u;
        is =
            IsAdded.added c u
            (record {
              not_hyp = open_step.not_hyp;
              no_reference = open_step.no_reference;
              not_used = no_use k e at open_step.not_hyp open_step.no_reference;
              closed = open_step.closed;
              before = subst (AreGroundBefore db w.bound.place options.dv w.bound.pairs es k) (sym made.places) (ground_before k made.numbers made.within);
              fits = chosen.1.1;
              label_within = made.label_within;
              label_is = label_back db.labels facts.labels c.label.0 made.label_within;
            });
        done = inl refl;
        same = refl;
      }
