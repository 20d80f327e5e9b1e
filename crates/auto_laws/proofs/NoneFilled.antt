-- Where a filled worksheet is written again, no step is filled.
use Rattle.std.specs.Prelude.{◌≡◌, ◌&&◌, ℕ, zero, suc, Bool, true, false, List, [], ◌∷◌, map, is_none, slice_get, Some, None, refl}
use Rattle.std.specs.List.{AllZip, range_with_len}
use Rattle.std.specs.Option.{option_map_or}
use Rattle.std.proofs.Common.{sym, ap, subst, ◌∙◌, inl, inr}
use Rattle.std.proofs.lemmas.Bool.{cases_Bool}
use Rattle.std.proofs.lemmas.List.Elements.{filter_agree}
use Rattle.mm_base.specs.declared.symbols.Pair.{Pair}
use Rattle.mm_base.specs.declared.tree.Tree.{Tree}
use Rattle.mm_model.specs.BookFacts.{IsDatabase}
use Rattle.mm_model.specs.Book.{Database}
use Rattle.sheet_text.specs.declared.sheet.Given.{Given}
use Rattle.sheet_text.specs.declared.sheet.Given.TheVariants as given
use Rattle.solve_model.specs.Firsts.{IsFirstOrNone}
use Rattle.solve_model.specs.Verdicts.{AreJudged}
use Rattle.written_model.specs.declared.options.DvMode.{DvMode}
use Rattle.written_model.specs.declared.options.Options.{Options}
use Rattle.written_model.specs.WrittenSteps.{Use, WrittenStep, WrittenItem, comment, step, steps_in, over_step, trees, place_tree}
use Rattle.written_model.specs.Pairs.{lack_of}
use Rattle.written_model.specs.Found.{Choice, Fits, valued, is_ground}
use Rattle.written_model.specs.Written.{Writing, written_bound, written_pairs}
use Rattle.written_model.specs.Again.{step_again, judgements_from, again}
use mathlib.Core.Path.{fun_ext}
use Rattle.answer_laws.proofs.Moved.{steps-over}
use Rattle.answer_laws.proofs.SearchStays.{trees_again}
use Rattle.answer_laws.proofs.SearchedAlike.{first_with}
use Rattle.auto_model.specs.AutoFilled.{is_unfilled, is_ground_number, earlier_steps, auto_choices, IsAutoChoice, IsFilled, AreFilledFrom}
use Rattle.auto_laws.proofs.UsedItems.{AreUsedFrom, all_added, AreDone}
use Rattle.auto_laws.proofs.FilledAgain.{filled_writing, lack_kept}

-- ---- what serves a step

module _ (db : Database) (place : ℕ) (mode : DvMode) (allowed more : List Pair) (lacks : (u : Use) → lack_of mode allowed u ≡ lack_of mode more u)
    (es fs : List WrittenStep) (same : trees es ≡ trees fs) where
  place_same : (h : Given) → place_tree es h ≡ place_tree fs h
  place_same given.Gap = refl
  place_same (given.Step k) = ap (λ ts. slice_get ts k) same

  pub fits_moved : (e f : WrittenStep) → e.tree ≡ f.tree → (c : Choice) → Fits db place mode allowed es e c → Fits db place mode more fs f c
  fits_moved e f tree c (u, k) = (
    u,
    record {
      is_usable = k.is_usable;
      earlier = k.earlier;
      codes = k.codes;
      conclusion = k.conclusion ∙ tree;
      hyps = subst (λ p. AllZip (λ (h : Tree) (g : Given). p g ≡ Some (valued u h)) u.assertion.hyps c.places) (fun_ext place_same) k.hyps;
      no_clash = k.no_clash;
      no_lack = sym (lacks u) ∙ k.no_lack;
    },
  )

ground_by : List Tree → ℕ → Bool
ground_by ts k = option_map_or is_ground (slice_get ts k) false

ground_number : (es : List WrittenStep) (k : ℕ) → is_ground_number es k ≡ ground_by (trees es) k
unfolding ground_by
ground_number es k = by es k
  where
    by : (xs : List WrittenStep) (n : ℕ) → is_ground_number xs n ≡ option_map_or is_ground (slice_get (trees xs) n) false
    by [] n = refl
    by (x ∷ xs) zero = refl
    by (x ∷ xs) (suc n) = by xs n

earlier_same : (es fs : List WrittenStep) → trees es ≡ trees fs → (k : ℕ) → earlier_steps es k ≡ earlier_steps fs k
earlier_same es fs same k =
    filter_agree (is_ground_number es) (is_ground_number fs) (λ n. ground_number es n ∙ ap (λ ts. ground_by ts n) same ∙ sym (ground_number fs n)) (range_with_len 0 k)

module _ (db : Database) (options : Options) (w : Writing) (used : List WrittenItem) (facts : IsDatabase db)
    (judged : AreJudged db (written_bound db options w) (judgements_from 0 (steps_in w.items))) (h : AreUsedFrom db options w 0 w.items used) (b : Bool) where
  abbrev es : List WrittenStep
  es = steps_in w.items

  abbrev fs : List WrittenStep
  fs = steps_in used

  abbrev W : Writing
  W = filled_writing db options w used b

  abbrev X : Writing
  X = again db options W

  trees_kept : trees es ≡ trees (steps_in X.items)
  trees_kept =
      (all_added db options w used h).same
      ∙ sym (ap trees (steps-over step_again W.items) ∙ trees_again (steps_in W.items) ∙ ap trees (steps-over step_again used) ∙ trees_again fs)

  lacks : (u : Use) → lack_of options.dv w.bound.pairs u ≡ lack_of options.dv X.bound.pairs u
  lacks u = sym (lack_kept options.dv w.bound.pairs es u) ∙ sym (lack_kept options.dv (written_pairs db options w) (steps_in W.items) u)

  none_serves : (k : ℕ) (f : WrittenStep) → IsAutoChoice db options w k f None → IsAutoChoice db options X k (step_again (step_again f)) None
  none_serves k f none =
      subst (λ ks. IsFirstOrNone (Fits db w.bound.place options.dv X.bound.pairs (steps_in X.items) (step_again (step_again f))) (auto_choices db ks) None)
      (earlier_same es (steps_in X.items) trees_kept k)
      (first_with (Fits db w.bound.place options.dv w.bound.pairs es f) (Fits db w.bound.place options.dv X.bound.pairs (steps_in X.items) (step_again (step_again f)))
      (fits_moved db w.bound.place options.dv w.bound.pairs X.bound.pairs lacks es (steps_in X.items) trees_kept f (step_again (step_again f)) refl)
      (fits_moved db w.bound.place options.dv X.bound.pairs w.bound.pairs (λ u. sym (lacks u)) (steps_in X.items) es (sym trees_kept) (step_again (step_again f)) f refl)
      (auto_choices db (earlier_steps es k)) None none)

  step_kept : (k : ℕ) (f : WrittenStep) → (is_none f.reference && is_unfilled f) ≡ true → IsAutoChoice db options w k f None
      → IsFilled db options X k (step_again (step_again f)) (step_again (step_again f))
  step_kept k f test none = IsFilled.none test (none_serves k f none)

  none_filled : (k : ℕ) (items : List WrittenItem) → AreDone db options w facts judged k items
      → AreFilledFrom db options X k (map (over_step step_again) (map (over_step step_again) items)) (map (over_step step_again) (map (over_step step_again) items))
  none_filled k [] d = refl
  none_filled k (comment lines ∷ items) d = (map (over_step step_again) (map (over_step step_again) items), refl, none_filled k items d)
  none_filled k (step f ∷ items) d = (
    step_again (step_again f),
    map (over_step step_again) (map (over_step step_again) items),
    refl,
    (elim d.0 [
      | inl test ↦ IsFilled.stays test
      | inr none ↦ elim (cases_Bool (is_none f.reference && is_unfilled f)) [ inl test ↦ step_kept k f test none | inr test ↦ IsFilled.stays test ]
    ]),
    none_filled (suc k) items d.1,
  )

  -- no step is filled again
  pub stays_filled : AreDone db options w facts judged 0 used → AreFilledFrom db options X 0 X.items X.items
  stays_filled d = none_filled 0 used d
