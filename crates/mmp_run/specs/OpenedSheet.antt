-- What came of opening the file of a worksheet. This is part of the proof, and not of the claim.
use Rattle.std.specs.Prelude.{◌≡◌, ◌⊎◌, ℕ, List, [], Option, IfSome, IsSomeAnd}
use Rattle.call_answers.specs.declared.ending.Ending.{Ending}
use Rattle.mm_base.specs.Outside.{Files}
use Rattle.mm_base.specs.declared.status.Status.TheVariants as statuses
use Rattle.sheet_text.specs.declared.sheet.Sheet.{Sheet}
use Rattle.sheet_text.specs.Reads.{Reads}
use Rattle.mmp_run.specs.declared.sheet.OpenedSheet.{OpenedSheet}
use Rattle.mmp_run.specs.declared.sheet.OpenedSheet.TheVariants as opened
use Rattle.mmp_run.specs.Opened.{Has, IsUnread}
use Rattle.mmp_run.specs.Refused.{IsReadable, IsSheetRefusal}
use Rattle.sheet_unify.specs.Made.{IsSaid}

-- the ending refuses the text under a name
pub record IsSheetRefused (told : Option Files) (name : List ℕ) (end : Ending) : Type 0 where
  pub status : end.status ≡ statuses.Sheet
  pub out : end.out ≡ []
  pub due : IfSome told (λ files. IsSomeAnd (files name) (λ text. IsSheetRefusal text end))

-- the text under a name has no fault, and says the worksheet
pub record IsOpenSheet (told : Option Files) (name : List ℕ) (sheet : Sheet) : Type 0 where
  pub text : List ℕ
  pub has : Has told name text
  pub readable : IsReadable text
  pub reads : Reads text sheet

abbrev pub IsOpenedSheet : Option Files → (List ℕ → ℕ) → (List ℕ → ℕ) → List ℕ → OpenedSheet → Type 0
IsOpenedSheet told before now name (opened.Sheet sheet) = IsOpenSheet told name sheet
IsOpenedSheet told before now name (opened.Refused end) = IsSheetRefused told name end ⊎ IsUnread before now name end

-- what was opened is what some text says, unless it was refused
abbrev pub SaysWhatIsSaid : OpenedSheet → Type 0
SaysWhatIsSaid (opened.Sheet sheet) = IsSaid sheet
SaysWhatIsSaid (opened.Refused end) = Unit {0}
