-- Laws: what a text without a fault says, and that what is laid out reads back.
use Rattle.std.specs.Prelude.{◌≡◌, ℕ, List, Option, Some, None, Contains}
use Rattle.sheet_text.specs.declared.sheet.Sheet.{Sheet}
use Rattle.sheet_text.specs.Layout.{layout}
use Rattle.sheet_text.specs.Reads.{Reads, ReadsAs}
use Rattle.sheet_text.specs.Spellable.{IsSpellable}
use Rattle.sheet_text.specs.TextFaults.{line_fault}

-- each text without a fault of 40 to 49 reads as a sheet
abbrev pub SoundIsRead : Type 0
SoundIsRead = (text : List ℕ) → line_fault text ≡ None → (s : Sheet) × Reads text s

-- what a text says can be spelled
abbrev pub ReadIsSpellable : Type 0
ReadIsSpellable = (text : List ℕ) (s : Sheet) → Reads text s → IsSpellable s

-- a proof is one line
abbrev pub IsOneLine : Option (List ℕ) → Type 0
IsOneLine None = Unit {0}
IsOneLine (Some proof) = Contains proof 10 → ⊥

-- each sheet that can be spelled reads back as itself, but for the numbers of its lines, with a proof of one line or none
abbrev pub LaidOutReadsBack : Type 0
LaidOutReadsBack = (s : Sheet) (proof : Option (List ℕ)) → IsSpellable s → IsOneLine proof → ReadsAs (layout s proof) s
