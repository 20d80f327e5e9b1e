-- The steps of a written worksheet with what fills them. This is part of the proof, and not of the claim.
use Rattle.std.specs.Prelude.{◌≡◌, ℕ, suc, Bool, true, false, not, ◌&&◌, List, [], ◌∷◌, ◌++◌, map, slice_get, slice_index_or, is_none, Option, Some, None}
use Rattle.mm_base.specs.declared.kinds.Kinds.{Kinds}
use Rattle.mm_base.specs.declared.tree.Tree.{Tree}
use Rattle.mm_model.specs.Book.{Database}
use Rattle.mm_model.specs.Names.{Name}
use Rattle.mm_model.specs.Statements.{is_empty}
use Rattle.mm_frames.specs.Contents.{Contents}
use Rattle.mm_database.specs.Books.{database_of}
use Rattle.mm_database.specs.Opened.{Opened, IsOpened}
use Rattle.sheet_text.specs.declared.sheet.Given.{Given}
use Rattle.sheet_text.specs.declared.sheet.Given.TheVariants as given
use Rattle.sheet_text.specs.declared.sheet.SheetItem.{SheetItem}
use Rattle.sheet_text.specs.declared.sheet.SheetItem.TheVariants as item
use Rattle.sheet_text.specs.declared.sheet.SheetStep.{SheetStep}
use Rattle.written_model.specs.declared.options.Options.{Options}
use Rattle.written_model.specs.Found.{is_ground}
use Rattle.written_model.specs.Written.{Writing, written_step}
use Rattle.written_model.specs.WrittenSteps.{WrittenStep, steps_in}
use Rattle.auto_model.specs.declared.auto.Auto.{Auto}
use Rattle.auto_model.specs.AutoFilled.{IsFilled, is_unfilled}
use Rattle.auto_fill.specs.Answers.{IsFilledBy}
use Rattle.sheet_filling.specs.declared.written.WrittenFormulas.{WrittenFormulas}
use Rattle.sheet_filling.specs.Filling.{AreOfWriting}

-- ---- what becomes of a step

abbrev pub with_reference : SheetStep → Name → List Given → SheetStep
with_reference s reference places = record s { reference = Some reference; places = places }

abbrev pub filled_with : Contents → SheetStep → Auto → SheetStep
filled_with c s a = with_reference s (slice_index_or c.labels a.label.0 []) (map (λ k. given.Step k) a.places)

abbrev pub step_with : Contents → SheetStep → Option Auto → SheetStep
step_with c s None = s
step_with c s (Some a) = filled_with c s a

-- no reference, no hypothesis, no place, and no work variable in its tree
abbrev pub is_to_be_filled : SheetStep → Tree → Bool
is_to_be_filled s t = is_none s.reference && (not s.hyp && is_empty s.places && is_ground t)

-- ---- one step of a worksheet

-- so in each worksheet that has these formulas, at its step of that number
abbrev pub ForNumber : Opened → WrittenFormulas → ℕ → (Database → Options → Writing → WrittenStep → Type 0) → Type 0
ForNumber d written k P =
    (kinds : Kinds) (text : List ℕ) (options : Options) (w : Writing) (e : WrittenStep) → IsOpened kinds text d → AreOfWriting options w written
    → slice_get (steps_in w.items) k ≡ Some e → P (database_of kinds text d.rows d.parsed) options w e

-- and that step is written as this one
abbrev pub ForStep : Opened → WrittenFormulas → ℕ → SheetStep → (Database → Options → Writing → WrittenStep → Type 0) → Type 0
ForStep d written k s P = ForNumber d written k (λ db options w e. s ≡ written_step db e → P db options w e)

-- the step is filled with it; nothing is looked for where it has a reference or is not to be filled
pub data IsSought (db : Database) (options : Options) (w : Writing) (k : ℕ) (e : WrittenStep) (o : Option Auto) : Type 0 where
  passed : (is_none e.reference && is_unfilled e) ≡ false → o ≡ None → IsSought db options w k e o
  sought : (is_none e.reference && is_unfilled e) ≡ true → IsFilledBy db options w k e o → IsSought db options w k e o

-- it is written as the step that is filled
abbrev pub IsStepFilled : Database → Options → Writing → ℕ → WrittenStep → SheetStep → Type 0
IsStepFilled db options w k e s = (f : WrittenStep) × (s ≡ written_step db f) × IsFilled db options w k e f

-- ---- comments and steps

abbrev pub number_after : ℕ → SheetItem → ℕ
number_after k (item.Comment lines) = k
number_after k (item.Step s) = suc k

abbrev pub IsItemFilled : Opened → WrittenFormulas → ℕ → SheetItem → SheetItem → Type 0
IsItemFilled d written k (item.Comment lines) i = i ≡ item.Comment lines
IsItemFilled d written k (item.Step s) i = (t : SheetStep) × (i ≡ item.Step t) × ForStep d written k s (λ db options w e. IsStepFilled db options w k e t)

abbrev pub AreItemsFilled : Opened → WrittenFormulas → ℕ → List SheetItem → List SheetItem → Type 0
AreItemsFilled d written k [] behind = behind ≡ []
AreItemsFilled d written k (i ∷ items) behind =
    (j : SheetItem) × (more : List SheetItem) × (behind ≡ j ∷ more) × IsItemFilled d written k i j × AreItemsFilled d written (number_after k i) items more

-- the first ones are filled, with what is left behind them
pub record AreFilledTo (d : Opened) (written : WrittenFormulas) (all left filled : List SheetItem) (k : ℕ) : Type 0 where
  pub rest : (more : List SheetItem) → AreItemsFilled d written k left more → AreItemsFilled d written 0 all (filled ++ more)
