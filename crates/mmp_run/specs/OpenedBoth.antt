-- What came of opening the files of a database and of a worksheet. This is part of the proof, and not of the claim.
use Rattle.std.specs.Prelude.{◌≡◌, ◌⊎◌, ℕ, List, Option, None}
use Rattle.call_answers.specs.declared.ending.Ending.{Ending}
use Rattle.mm_base.specs.Outside.{Files}
use Rattle.mm_frames.specs.Contents.{Contents, contents_of}
use Rattle.mm_model.specs.Statements.{database_fault}
use Rattle.sheet_text.specs.declared.sheet.Sheet.{Sheet}
use Rattle.sheet_unify.specs.Made.{IsSaid}
use Rattle.mmp_run.specs.declared.both.OpenedBoth.{OpenedBoth}
use Rattle.mmp_run.specs.declared.both.OpenedBoth.TheVariants as opened
use Rattle.mmp_run.specs.Opened.{IsRefused, IsUnread, IsOpen, IsListedText}
use Rattle.mmp_run.specs.OpenedSheet.{IsSheetRefused, IsOpenSheet}

-- the ending refuses the file of the database; or that of the worksheet, behind a database without a fault
pub data IsRefusedFile (told : Option Files) (before now : List ℕ → ℕ) (database sheet : List ℕ) (end : Ending) : Type 0 where
  bad_database : IsRefused told database end ⊎ IsUnread before now database end → IsRefusedFile told before now database sheet end
  bad_sheet : {text : List ℕ} → IsOpen told database text → IsSheetRefused told sheet end ⊎ IsUnread before now sheet end → IsRefusedFile told before now database sheet end

-- these are the statements of the database's text, and the worksheet is what its text says
pub record AreOpen (told : Option Files) (database sheet text : List ℕ) (contents : Contents) (s : Sheet) : Type 0 where
  pub listed : IsListedText told database text contents
  pub is_sheet : IsOpenSheet told sheet s

abbrev pub IsOpenedBoth : Option Files → (List ℕ → ℕ) → (List ℕ → ℕ) → List ℕ → List ℕ → OpenedBoth → Type 0
IsOpenedBoth told before now database sheet (opened.Both text frames s) = AreOpen told database sheet text frames s
IsOpenedBoth told before now database sheet (opened.Refused end) = IsRefusedFile told before now database sheet end

-- what is known of the texts themselves
pub record AreTexts (text : List ℕ) (contents : Contents) (s : Sheet) : Type 0 where
  pub contents_are : contents ≡ contents_of text
  pub no_fault : database_fault text ≡ None
  pub said : IsSaid s

abbrev pub HasTexts : OpenedBoth → Type 0
HasTexts (opened.Both text frames s) = AreTexts text frames s
HasTexts (opened.Refused end) = Unit {0}
