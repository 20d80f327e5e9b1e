-- The items of a filled worksheet, with the uses of their steps.
use Rattle.std.specs.Prelude.{◌≡◌, ◌+◌, ℕ, zero, suc, List, [], ◌∷◌, map, slice_get, Some, refl}
use Rattle.std.proofs.Common.{sym, ap, subst, ◌∙◌, arith}
use Rattle.mm_model.specs.BookFacts.{IsDatabase}
use Rattle.mm_model.specs.Book.{Database}
use Rattle.sheet_text.specs.declared.sheet.SheetItem.TheVariants as item
use Rattle.solve_model.specs.Verdicts.{AreJudged}
use Rattle.written_model.specs.declared.options.Options.{Options}
use Rattle.written_model.specs.WrittenSteps.{WrittenStep, WrittenItem, comment, step, steps_in, trees}
use Rattle.written_model.specs.Written.{Writing, written_step, written_item, written_bound}
use Rattle.written_model.specs.Again.{judgements_from}
use Rattle.again_laws.proofs.Lists.{some_same}
use Rattle.auto_model.specs.AutoFilled.{AreFilledFrom}
use Rattle.auto_laws.proofs.Added.{IsAdded, AreAdded}
use Rattle.auto_laws.proofs.ChosenUses.{IsDone, step_used}

module _ (db : Database) (options : Options) (w : Writing) where
  abbrev es : List WrittenStep
  es = steps_in w.items

  abbrev Adds : ℕ → WrittenStep → WrittenStep → Type 0
  Adds k e f = IsAdded db w.bound.place options.dv w.bound.pairs es k e f

  -- the items from step number k on
  abbrev pub AreUsedFrom : ℕ → List WrittenItem → List WrittenItem → Type 0
  AreUsedFrom k [] behind = behind ≡ []
  AreUsedFrom k (comment lines ∷ items) behind = (more : List WrittenItem) × (behind ≡ comment lines ∷ more) × AreUsedFrom k items more
  AreUsedFrom k (step e ∷ items) behind = (f : WrittenStep) × (more : List WrittenItem) × (behind ≡ step f ∷ more) × Adds k e f × AreUsedFrom (suc k) items more

  added_tree : (k : ℕ) (e f : WrittenStep) → Adds k e f → f.tree ≡ e.tree
  added_tree k e _ IsAdded.stays = refl
  added_tree k e _ (IsAdded.added c u h) = refl

  used_trees : (k : ℕ) (items behind : List WrittenItem) → AreUsedFrom k items behind → trees (steps_in items) ≡ trees (steps_in behind)
  used_trees k [] behind h = ap (λ is. trees (steps_in is)) (sym h)
  used_trees k (comment lines ∷ items) behind h = used_trees k items h.0 h.2 ∙ ap (λ is. trees (steps_in is)) (sym h.1)
  used_trees k (step e ∷ items) behind h =
      ap (λ t. t ∷ trees (steps_in items)) (sym (added_tree k e h.0 h.3)) ∙ ap (λ ts. h.0.tree ∷ ts) (used_trees (suc k) items h.1 h.4)
      ∙ ap (λ is. trees (steps_in is)) (sym h.2)

  next : (k m : ℕ) → suc k + m ≡ k + suc m
  next k m = omega arith

  plus_zero : (k : ℕ) → k ≡ k + 0
  plus_zero k = omega arith

  used_there : (k : ℕ) (items behind : List WrittenItem) → AreUsedFrom k items behind → (m : ℕ) (e : WrittenStep) → slice_get (steps_in items) m ≡ Some e
      → (f : WrittenStep) × (slice_get (steps_in behind) m ≡ Some f) × Adds (k + m) e f
  used_there k [] behind h m e at = absurd cc
  used_there k (comment lines ∷ items) behind h m e at =
      let r = used_there k items h.0 h.2 m e at in
      (r.0, ap (λ is. slice_get (steps_in is) m) h.1 ∙ r.1, r.2)
  used_there k (step x ∷ items) behind h zero e at =
      (h.0, ap (λ is. slice_get (steps_in is) 0) h.2, subst (λ n. Adds n e h.0) (plus_zero k) (subst (λ y. Adds k y h.0) (some_same x e at) h.3))
  used_there k (step x ∷ items) behind h (suc m) e at =
      let r = used_there (suc k) items h.1 h.4 m e at in
      (r.0, ap (λ is. slice_get (steps_in is) (suc m)) h.2 ∙ r.1, subst (λ n. Adds n e r.0) (next k m) r.2)

  used_back : (k : ℕ) (items behind : List WrittenItem) → AreUsedFrom k items behind → (m : ℕ) (f : WrittenStep) → slice_get (steps_in behind) m ≡ Some f
      → (e : WrittenStep) × (slice_get (steps_in items) m ≡ Some e) × Adds (k + m) e f
  used_back k [] behind h m f at = let bad = ap (λ is. slice_get (steps_in is) m) (sym h) ∙ at in absurd cc
  used_back k (comment lines ∷ items) behind h m f at = used_back k items h.0 h.2 m f (ap (λ is. slice_get (steps_in is) m) (sym h.1) ∙ at)
  used_back k (step x ∷ items) behind h zero f at =
      let same : h.0 ≡ f = some_same h.0 f (ap (λ is. slice_get (steps_in is) 0) (sym h.2) ∙ at) in
      (x, refl, subst (λ n. Adds n x f) (plus_zero k) (subst (Adds k x) same h.3))
  used_back k (step x ∷ items) behind h (suc m) f at =
      let r = used_back (suc k) items h.1 h.4 m f (ap (λ is. slice_get (steps_in is) (suc m)) (sym h.2) ∙ at) in
      (r.0, r.1, subst (λ n. Adds n r.0 f) (next k m) r.2)

  zero_plus : (k : ℕ) → 0 + k ≡ k
  zero_plus k = omega arith

  pub all_added : (behind : List WrittenItem) → AreUsedFrom 0 w.items behind → AreAdded db w.bound.place options.dv w.bound.pairs es (steps_in behind)
  all_added behind h = record {
    same = used_trees 0 w.items behind h;
    there = λ k e at. let r = used_there 0 w.items behind h k e at in (r.0, r.1, subst (λ n. Adds n e r.0) (zero_plus k) r.2);
    back = λ k f at. let r = used_back 0 w.items behind h k f at in (r.0, r.1, subst (λ n. Adds n r.0 f) (zero_plus k) r.2);
  }

  -- ---- the uses of filled items

  module _ (facts : IsDatabase db) (judged : AreJudged db (written_bound db options w) (judgements_from 0 es)) where
    -- none of the steps from a number on is to be filled and served
    abbrev pub AreDone : ℕ → List WrittenItem → Type 0
    AreDone k [] = Unit {0}
    AreDone k (comment lines ∷ items) = AreDone k items
    AreDone k (step f ∷ items) = IsDone db options w facts judged k f × AreDone (suc k) items

    items_used : (k : ℕ) (items behind : List WrittenItem) → ((m : ℕ) (e : WrittenStep) → slice_get (steps_in items) m ≡ Some e → slice_get es (k + m) ≡ Some e)
        → AreFilledFrom db options w k items behind
        → (used : List WrittenItem) × AreUsedFrom k items used × AreDone k used × (map (written_item db) used ≡ map (written_item db) behind)
    items_used k [] behind at h = ([], refl, tt, ap (map (written_item db)) (sym h))
    items_used k (comment lines ∷ items) behind at h =
        let r = items_used k items h.0 at h.2 in
        (comment lines ∷ r.0, (r.0, refl, r.1), r.2, ap (λ xs. written_item db (comment lines) ∷ xs) r.3 ∙ ap (map (written_item db)) (sym h.1))
    items_used k (step e ∷ items) behind at h =
        let here : slice_get es k ≡ Some e = subst (λ n. slice_get es n ≡ Some e) (sym (plus_zero k)) (at 0 e refl) in
        let u = step_used db options w facts judged k e h.0 here h.3 in
        let r = items_used (suc k) items h.1 (λ m x q. subst (λ n. slice_get es n ≡ Some x) (sym (next k m)) (at (suc m) x q)) h.4 in (
          step u.used ∷ r.0,
          (u.used, r.0, refl, u.is, r.1),
          (u.done, r.2),
          ap (λ s. item.Step s ∷ map (written_item db) r.0) u.same ∙ ap (λ xs. item.Step (written_step db h.0) ∷ xs) r.3 ∙ ap (map (written_item db)) (sym h.2),
        )

    pub filled_used : (behind : List WrittenItem) → AreFilledFrom db options w 0 w.items behind
        → (used : List WrittenItem) × AreUsedFrom 0 w.items used × AreDone 0 used × (map (written_item db) used ≡ map (written_item db) behind)
    filled_used behind h = items_used 0 w.items behind (λ m e q. subst (λ n. slice_get es n ≡ Some e) (sym (zero_plus m)) q) h
