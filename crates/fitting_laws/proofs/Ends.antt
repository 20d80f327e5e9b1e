-- A worksheet whose steps fit as they are written is finished.
use Rattle.std.specs.Prelude.{◌≡◌, ◌<◌, ◌≤◌, ◌==◌, ◌&&◌, ◌||◌, ℕ, suc, true, List, [], ◌∷◌, length, take, is_none, Contains, slice_get, Some, None, refl}
use Rattle.std.specs.List.{AllZip, list_all}
use Rattle.std.proofs.Common.{sym, ap, subst, ◌∙◌, arith, eq-eqb}
use Rattle.mm_base.specs.declared.symbols.Pair.{Pair}
use Rattle.mm_base.specs.declared.tree.Tree.{Tree}
use Rattle.mm_base.specs.Limits.{most_formula_tokens}
use Rattle.mm_model.specs.Names.{Name}
use Rattle.mm_model.specs.Book.{Database}
use Rattle.sheet_text.specs.declared.sheet.Given.{Given}
use Rattle.sheet_text.specs.declared.sheet.Given.TheVariants as given
use Rattle.sheet_text.specs.declared.sheet.SheetStep.{SheetStep}
use Rattle.solve_model.specs.declared.bound.Bound.{Bound}
use Rattle.solve_model.specs.Formulas.{IsTheTree, HasTwoTrees}
use Rattle.solve_model.specs.Solutions.{names_step}
use Rattle.solve_model.specs.Trees.{Open, open_leaves}
use Rattle.solve_laws.specs.Instances.{IsClosedTree}
use Rattle.solve_laws.proofs.Elements.{first}
use Rattle.written_model.specs.declared.options.DvMode.{DvMode}
use Rattle.written_model.specs.declared.options.DvMode.TheVariants as dv
use Rattle.written_model.specs.declared.report.ReportVerdict.TheVariants as report
use Rattle.written_model.specs.Found.{is_ground}
use Rattle.written_model.specs.Pairs.{clash_of, lack_of}
use Rattle.written_model.specs.ProofTrees.{is_complete_use, is_complete, Finished}
use Rattle.written_model.specs.Written.{formula_tokens}
use Rattle.written_model.specs.WrittenSteps.{Use, WrittenStep}
use Rattle.again_laws.proofs.Lists.{contains_get, some_same, zip_long}
use Rattle.call_answers.specs.Finishes.{FitsAsGiven, fitting_verdict}
use Rattle.fitting_laws.proofs.Expected.{IsExpected}
use Rattle.fitting_laws.proofs.Scenes.{Scene, AreBelow}

ground_of : (t : Tree) → IsClosedTree t → is_ground t ≡ true
ground_of t closed = by (open_leaves t) closed
  where
    by : (xs : List Open) → ((x : Open) → Contains xs x → ⊥) → (length xs == 0) ≡ true
    by [] h = refl
    by (x ∷ xs) h = absurd (h x (first x x xs refl))

all_named : (n : ℕ) (gs : List Given) → AreBelow n gs → list_all names_step gs ≡ true
all_named n [] b = refl
all_named n (given.Gap ∷ gs) b = absurd b
all_named n (given.Step k ∷ gs) b = all_named n gs b.1

no_some : {X : Type 0} (x : X) → None ≡ Some x → ⊥
no_some x q = cc

-- steps side by side with those of the same places
pub zip_from : {X Y : Type 0} (R : X → Y → Type 0) (xs : List X) (ys : List Y) → ((k : ℕ) (y : Y) → slice_get ys k ≡ Some y → (x : X) × (slice_get xs k ≡ Some x) × R x y)
    → ((k : ℕ) (x : X) → slice_get xs k ≡ Some x → (y : Y) × (slice_get ys k ≡ Some y)) → AllZip R xs ys
zip_from R [] [] f h = tt
zip_from R [] (y ∷ ys) f h = let r = f 0 y refl in absurd (no_some r.0 r.1)
zip_from R (x ∷ xs) [] f h = let r = h 0 x refl in absurd (no_some r.0 r.1)
zip_from R (x ∷ xs) (y ∷ ys) f h =
    let r = f 0 y refl in
    (subst (λ z. R z y) (sym (some_same x r.0 r.1)) r.2, zip_from R xs ys (λ k. f (suc k)) (λ k. h (suc k)))

module _ (db : Database) (bound : Bound) (pairs : List Pair) (ss : List SheetStep) (ts : List Tree) (es : List WrittenStep) (S : Scene db bound pairs ss ts es) where
  -- each step is written as it is given
  pub given_as_is : ((k : ℕ) (s : SheetStep) (t : Tree) → slice_get ss k ≡ Some s → slice_get ts k ≡ Some t → formula_tokens db t ≡ s.formula) → AllZip (FitsAsGiven db) ss es
  given_as_is tokens =
      zip_from (FitsAsGiven db) ss es
      (λ k e at. let r = S.view.rows k e at in (r.source, r.source_at, from k r.source r.tree (tokens k r.source r.tree r.source_at r.tree_at) e r.is)) S.view.there
    where
      with_formula : SheetStep → List Name → SheetStep
      with_formula s f = record s { line = 0; formula = f }

      from : (k : ℕ) (s : SheetStep) (t : Tree) → formula_tokens db t ≡ s.formula → (x : WrittenStep) → IsExpected db bound.place pairs (take k ts) s t x → FitsAsGiven db s x
      from k s t same _ (IsExpected.hyp h) =
          record { as_it_is = ap (with_formula s) same; verdict = (let e : report.Hyp ≡ fitting_verdict s.hyp = rw h refl in e); no_clash = refl }
      from k s t same _ (IsExpected.fits h f) =
          record { as_it_is = ap (with_formula s) same; verdict = (let e : report.Fits ≡ fitting_verdict s.hyp = rw h refl in e); no_clash = f.no_clash }

  -- ---- finished

  ground_at : (k : ℕ) (e : WrittenStep) → slice_get es k ≡ Some e → is_ground e.tree ≡ true
  ground_at k e at = let r = S.view.rows k e at in from r.source r.tree r.tree_at e r.is
    where
      from : (s : SheetStep) (t : Tree) → slice_get ts k ≡ Some t → (x : WrittenStep) → IsExpected db bound.place pairs (take k ts) s t x → is_ground x.tree ≡ true
      from s t t_at _ (IsExpected.hyp h) = ground_of t (S.closed k t t_at)
      from s t t_at _ (IsExpected.fits h f) = ground_of t (S.closed k t t_at)

  no_lack : (mode : DvMode) (u : Use) → lack_of dv.Given pairs u ≡ None → lack_of mode pairs u ≡ None
  no_lack dv.Add u h = refl
  no_lack dv.Given u h = h

  complete_at : (mode : DvMode) (k : ℕ) (e : WrittenStep) → slice_get es k ≡ Some e → is_complete mode pairs e ≡ true
  complete_at mode k e at = let r = S.view.rows k e at in from r.source r.source_at r.tree e r.is
    where
      from : (s : SheetStep) → slice_get ss k ≡ Some s → (t : Tree) (x : WrittenStep) → IsExpected db bound.place pairs (take k ts) s t x → is_complete mode pairs x ≡ true
      from s s_at t _ (IsExpected.hyp h) = ap (λ b. b || is_complete_use mode pairs s.places None) h
      from s s_at t _ (IsExpected.fits h f) =
          let long : (length s.places == length f.by.assertion.hyps) ≡ true = eq-eqb (length s.places) (length f.by.assertion.hyps) (sym (zip_long _ f.by.assertion.hyps s.places f.hyps)) in
          let named = all_named k s.places (S.below k s s_at) in
          let clash : is_none (clash_of f.by) ≡ true = ap is_none f.no_clash in
          let lack : is_none (lack_of mode pairs f.by) ≡ true = ap is_none (no_lack mode f.by f.no_lack) in
          ap (λ b. b || is_complete_use mode pairs s.places (Some f.by)) h
          ∙ ap (λ b. b && list_all names_step s.places && is_none (clash_of f.by) && is_none (lack_of mode pairs f.by)) long
          ∙ ap (λ b. b && is_none (clash_of f.by) && is_none (lack_of mode pairs f.by)) named ∙ ap (λ b. b && is_none (lack_of mode pairs f.by)) clash ∙ lack

  pub finished : (mode : DvMode) → Finished mode pairs es
  finished mode = record {
    hyps = λ i e at h. ground_at i e at;
    no_work = λ i e at below. ground_at i e at;
    complete = λ i e at below. complete_at mode i e at;
  }

  -- ---- what is written is as long as it was, and has one tree

  module _ (tokens : (k : ℕ) (s : SheetStep) (t : Tree) → slice_get ss k ≡ Some s → slice_get ts k ≡ Some t → formula_tokens db t ≡ s.formula)
      (short : (k : ℕ) (s : SheetStep) → slice_get ss k ≡ Some s → length s.formula ≤ most_formula_tokens)
      (one_tree : (k : ℕ) (s : SheetStep) (t : Tree) → slice_get ss k ≡ Some s → slice_get ts k ≡ Some t → IsTheTree db bound.place s.formula t) where
    record Written (e : WrittenStep) : Type 0 where
      number : ℕ
      source : SheetStep
      source_at : slice_get ss number ≡ Some source
      tree_at : slice_get ts number ≡ Some e.tree

    written : (e : WrittenStep) → Contains es e → Written e
    written e m = let r = contains_get es e m in let w = S.view.rows r.0 e r.1 in from r.0 w.source w.source_at w.tree w.tree_at e w.is
      where
        from : (k : ℕ) (s : SheetStep) → slice_get ss k ≡ Some s → (t : Tree) → slice_get ts k ≡ Some t → (x : WrittenStep) → IsExpected db bound.place pairs (take k ts) s t x → Written x
        from k s s_at t t_at _ (IsExpected.hyp h) = record { number = k; source = s; source_at = s_at; tree_at = t_at }
        from k s s_at t t_at _ (IsExpected.fits h f) = record { number = k; source = s; source_at = s_at; tree_at = t_at }

    pub none_long : (e : WrittenStep) → Contains es e → most_formula_tokens < length (formula_tokens db e.tree) → ⊥
    none_long e m long =
        let w = written e m in
        let few = short w.number w.source w.source_at in
        let same : length (formula_tokens db e.tree) ≡ length w.source.formula = ap length (tokens w.number w.source e.tree w.source_at w.tree_at) in
        too_many (length w.source.formula) few (subst (λ n. most_formula_tokens < n) same long)
      where
        too_many : (n : ℕ) → n ≤ most_formula_tokens → most_formula_tokens < n → ⊥
        too_many n a b = omega (arith, a, b)

    pub none_ambiguous : (e : WrittenStep) → Contains es e → HasTwoTrees db bound.place (formula_tokens db e.tree) → ⊥
    none_ambiguous e m two =
        let w = written e m in
        let the = one_tree w.number w.source e.tree w.source_at w.tree_at in
        let again : HasTwoTrees db bound.place w.source.formula = subst (HasTwoTrees db bound.place) (tokens w.number w.source e.tree w.source_at w.tree_at) two in
        again.differ (the.only again.one again.one_parses ∙ sym (the.only again.other again.other_parses))
