-- The steps that a worksheet which fits is written with.
use Rattle.std.specs.Prelude.{◌≡◌, ℕ, zero, suc, Bool, true, false, List, [], ◌∷◌, take, slice_get, Option, Some, None, refl}
use Rattle.std.specs.List.{AllZip}
use Rattle.std.proofs.Common.{ap, subst, ◌∙◌}
use Rattle.mm_base.specs.declared.symbols.Pair.{Pair}
use Rattle.mm_base.specs.declared.tree.Tree.{Tree}
use Rattle.mm_model.specs.Book.{Database}
use Rattle.sheet_text.specs.declared.sheet.SheetStep.{SheetStep}
use Rattle.written_model.specs.declared.report.ReportVerdict.{ReportVerdict}
use Rattle.written_model.specs.declared.report.ReportVerdict.TheVariants as report
use Rattle.written_model.specs.WrittenSteps.{Use, WrittenStep, trees}
use Rattle.fitting_laws.specs.FitsAsWritten.{FitsAsListed}

abbrev pub step_of : SheetStep → Tree → ReportVerdict → Option Use → WrittenStep
step_of s t v o = record { hyp = s.hyp; name = s.name; places = s.places; reference = s.reference; tree = t; verdict = v; by = o }

module _ (db : Database) (place : ℕ) (pairs : List Pair) where
  -- a hypothesis, or a step that fits over these trees
  pub data IsExpected (earlier : List Tree) (s : SheetStep) (t : Tree) : WrittenStep → Type 0 where
    hyp : s.hyp ≡ true → IsExpected earlier s t (step_of s t report.Hyp None)
    fits : s.hyp ≡ false → (f : FitsAsListed db place pairs earlier s t) → IsExpected earlier s t (step_of s t report.Fits (Some f.by))

  one : (earlier : List Tree) (s : SheetStep) (t : Tree) → (s.hyp ≡ false → FitsAsListed db place pairs earlier s t) → (e : WrittenStep) × IsExpected earlier s t e
  one earlier s t h = by s.hyp refl
    where
      by : (b : Bool) → s.hyp ≡ b → (e : WrittenStep) × IsExpected earlier s t e
      by true e = (_, IsExpected.hyp e)
      by false e = (_, IsExpected.fits e (h e))

  abbrev pub Fitting : (ℕ → List Tree) → List SheetStep → List Tree → Type 0
  Fitting earlier ss ts = (k : ℕ) (s : SheetStep) (t : Tree) → slice_get ss k ≡ Some s → slice_get ts k ≡ Some t → s.hyp ≡ false → FitsAsListed db place pairs (earlier k) s t

  -- a step with its tree, at a place of the written steps
  pub record Row (earlier : List Tree) (ss : List SheetStep) (ts : List Tree) (k : ℕ) (e : WrittenStep) : Type 0 where
    pub source : SheetStep
    pub source_at : slice_get ss k ≡ Some source
    pub tree : Tree
    pub tree_at : slice_get ts k ≡ Some tree
    pub is : IsExpected earlier source tree e

  -- the written steps, by their places
  pub record View (earlier : ℕ → List Tree) (ss : List SheetStep) (ts : List Tree) (es : List WrittenStep) : Type 0 where
    pub rows : (k : ℕ) (e : WrittenStep) → slice_get es k ≡ Some e → Row (earlier k) ss ts k e
    pub there : (k : ℕ) (s : SheetStep) → slice_get ss k ≡ Some s → (e : WrittenStep) × (slice_get es k ≡ Some e)
    pub trees_are : trees es ≡ ts

  tree_is : (earlier : List Tree) (s : SheetStep) (t : Tree) (e : WrittenStep) → IsExpected earlier s t e → e.tree ≡ t
  tree_is earlier s t _ (IsExpected.hyp h) = refl
  tree_is earlier s t _ (IsExpected.fits h f) = refl

  expected_from : (R : SheetStep → Tree → Type 0) (earlier : ℕ → List Tree) (ss : List SheetStep) (ts : List Tree) → AllZip R ss ts → Fitting earlier ss ts
      → (es : List WrittenStep) × View earlier ss ts es
  expected_from R earlier [] [] z f = ([], record { rows = λ k e at. absurd (none k e at); there = λ k s at. absurd (nothing k s at); trees_are = refl })
    where
      none : (k : ℕ) (e : WrittenStep) → slice_get [] k ≡ Some e → ⊥
      none k e at = cc

      nothing : (k : ℕ) (s : SheetStep) → slice_get [] k ≡ Some s → ⊥
      nothing k s at = cc
  expected_from R earlier [] (t ∷ ts) z f = absurd z
  expected_from R earlier (s ∷ ss) [] z f = absurd z
  expected_from R earlier (s ∷ ss) (t ∷ ts) z f =
      let first = one (earlier 0) s t (f 0 s t refl refl) in
      let rest = expected_from R (λ k. earlier (suc k)) ss ts z.1 (λ k. f (suc k)) in
      (first.0 ∷ rest.0, joined first.0 first.1 rest.0 rest.1)
    where
      joined : (e : WrittenStep) → IsExpected (earlier 0) s t e → (es : List WrittenStep) → View (λ k. earlier (suc k)) ss ts es → View earlier (s ∷ ss) (t ∷ ts) (e ∷ es)
      joined e is es v = record { rows = rows_of; there = there_of; trees_are = ap (λ x. x ∷ trees es) (tree_is (earlier 0) s t e is) ∙ ap (λ xs. t ∷ xs) v.trees_are }
        where
          rows_of : (k : ℕ) (x : WrittenStep) → slice_get (e ∷ es) k ≡ Some x → Row (earlier k) (s ∷ ss) (t ∷ ts) k x
          rows_of zero x at = let same : e ≡ x = cc in record { source = s; source_at = refl; tree = t; tree_at = refl; is = subst (IsExpected (earlier 0) s t) same is }
          rows_of (suc k) x at = let r = v.rows k x at in record { source = r.source; source_at = r.source_at; tree = r.tree; tree_at = r.tree_at; is = r.is }

          there_of : (k : ℕ) (x : SheetStep) → slice_get (s ∷ ss) k ≡ Some x → (y : WrittenStep) × (slice_get (e ∷ es) k ≡ Some y)
          there_of zero x at = (e, refl)
          there_of (suc k) x at = v.there k x at

  pub expected : (R : SheetStep → Tree → Type 0) (ss : List SheetStep) (ts : List Tree) → AllZip R ss ts → Fitting (λ k. take k ts) ss ts
      → (es : List WrittenStep) × View (λ k. take k ts) ss ts es
  expected R ss ts z f = expected_from R (λ k. take k ts) ss ts z f
