-- The written worksheet with its steps filled, and the answer to a worksheet that is filled.
use Rattle.std.specs.Prelude.{◌≡◌, ℕ, List, None}
use Rattle.mm_base.specs.declared.kinds.Kinds.{Kinds}
use Rattle.mm_model.specs.Book.{Database}
use Rattle.mm_database.specs.Books.{database_of}
use Rattle.mm_database.specs.Opened.{Opened, IsOpened}
use Rattle.sheet_text.specs.declared.sheet.Sheet.{Sheet}
use Rattle.sheet_text.specs.Layout.{layout}
use Rattle.written_model.specs.declared.options.Options.{Options}
use Rattle.written_model.specs.Written.{Writing, Answer, Answers, wrote, written_sheet}
use Rattle.written_model.specs.WrittenSteps.{WrittenItem, steps_in, trees}
use Rattle.auto_model.specs.AutoFilled.{AreFilledFrom, AutoAnswers, filled_sheet}
use Rattle.sheet_filling.specs.declared.written.WrittenFormulas.{WrittenFormulas}

-- place, pairs and trees are those of what a worksheet becomes
pub record AreOfWriting (options : Options) (w : Writing) (written : WrittenFormulas) : Type 0 where
  pub place : written.place ≡ w.bound.place
  pub mode : written.mode ≡ options.dv
  pub given : written.given.now ≡ w.bound.pairs
  pub trees_are : written.trees.now ≡ trees (steps_in w.items)

-- and so is the sheet
pub record IsOfWriting (db : Database) (options : Options) (w : Writing) (written : WrittenFormulas) (sheet : Sheet) : Type 0 where
  pub formulas : AreOfWriting options w written
  pub sheet_is : sheet ≡ written_sheet db options w

-- for whatever a worksheet becomes that has these formulas and is written as this sheet, in each text from which the database is opened
abbrev pub ForWriting : Opened → WrittenFormulas → Sheet → (Database → Options → Writing → Type 0) → Type 0
ForWriting d written sheet P =
    (kinds : Kinds) (text : List ℕ) (options : Options) (w : Writing) → IsOpened kinds text d → IsOfWriting (database_of kinds text d.rows d.parsed) options w written sheet
    → P (database_of kinds text d.rows d.parsed) options w

-- it is the written worksheet with its steps filled
abbrev pub IsFilledSheet : Database → Options → Writing → Sheet → Type 0
IsFilledSheet db options w s = (items : List WrittenItem) × AreFilledFrom db options w 0 w.items items × (s ≡ filled_sheet db options w items)

-- it is the text of that worksheet, without a proof
abbrev pub IsFilledText : Database → Options → Writing → List ℕ → Type 0
IsFilledText db options w t = (items : List WrittenItem) × AreFilledFrom db options w 0 w.items items × (t ≡ layout (filled_sheet db options w items) None)

-- ---- the answer to the worksheet that was read

-- what is answered to the text of a worksheet with its steps filled is the answer to the worksheet that is filled
abbrev pub FillingIsTheAnswer : Type 0
FillingIsTheAnswer = (db : Database) (options : Options) (text : List ℕ) (w : Writing) (filled : List ℕ) (answer : Answer) → Answers db text options (wrote w) → IsFilledText db options w filled
    → Answers db filled options answer → AutoAnswers db text options answer
