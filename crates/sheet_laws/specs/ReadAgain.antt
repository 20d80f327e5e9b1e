-- A layout, read again.
use Rattle.std.specs.Prelude.{◌≡◌, ◌≤◌, ℕ, List, length, Option, None}
use Rattle.mm_base.specs.Limits.{most_sheet_bytes}
use Rattle.sheet_text.specs.declared.sheet.Sheet.{Sheet}
use Rattle.sheet_text.specs.Layout.{layout}
use Rattle.sheet_text.specs.Reads.{Reads, unnumbered}
use Rattle.sheet_text.specs.Spellable.{IsSpellable}
use Rattle.sheet_text.specs.TextFaults.{text_fault}
use Rattle.written_model.specs.ReadBack.{IsOneLine}

-- a text has no fault, and whatever it reads as is this sheet but for the numbers of lines
abbrev pub ReadsOnlyAs : List ℕ → Sheet → Type 0
ReadsOnlyAs text s = (text_fault text ≡ None) × ((read : Sheet) → Reads text read → unnumbered read ≡ unnumbered s)

-- so it is with the layout of each sheet that can be spelled, with a proof of one line or none, where the layout is not too long
abbrev pub LaidOutReadsOnlyAs : Type 0
LaidOutReadsOnlyAs = (s : Sheet) (proof : Option (List ℕ)) → IsSpellable s → IsOneLine proof → length (layout s proof) ≤ most_sheet_bytes → ReadsOnlyAs (layout s proof) s

-- a text reads as one sheet at most
abbrev pub ReadsAsOne : Type 0
ReadsAsOne = (text : List ℕ) (s t : Sheet) → Reads text s → Reads text t → s ≡ t
