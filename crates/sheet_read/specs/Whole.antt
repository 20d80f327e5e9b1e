-- Reading all the lines of a sheet, with the first fault that is met. This is part of the proof, and not of the claim.
use Rattle.std.specs.Prelude.{◌≡◌, ℕ, Bool, ◌&&◌, List, [], ◌∷◌, Option, Some, None, Result, Ok, Err, if◌then◌else◌, slice_get, codes}
use Rattle.mm_model.specs.Faults.{Fault, fault}
use Rattle.sheet_text.specs.declared.sheet.Sheet.{Sheet}
use Rattle.sheet_text.specs.Lines.{Line, begins, tokens}
use Rattle.sheet_text.specs.SheetStatements.{is_word, tokens_in}
use Rattle.sheet_text.specs.Forms.{Header, header_of}
use Rattle.sheet_read.specs.declared.fault.SheetFault.{SheetFault}
use Rattle.sheet_read.specs.declared.fault.SheetFault.TheVariants as faults
use Rattle.sheet_read.specs.Faults.{code_of}
use Rattle.sheet_read.specs.Reading.{Reading, first_reading, read_lines, statement_at}

-- what the reader answers is what reading gives, unless memory runs out
abbrev pub FailsWith : SheetFault → Result Reading Fault → Type 0
FailsWith faults.Memory read = Unit {0}
FailsWith (faults.At code line) read = read ≡ Err (fault line (code_of code))

abbrev pub SheetFailsWith : SheetFault → Result Sheet Fault → Type 0
SheetFailsWith faults.Memory read = Unit {0}
SheetFailsWith (faults.At code line) read = read ≡ Err (fault line (code_of code))

abbrev pub begins_header : Line → Bool
begins_header l = begins l && is_word (codes "$(") (slice_get (tokens l) 0)

-- a header at a line, and what was read behind it
abbrev pub with_header : ℕ → Option Header → Result Reading Fault → Result Sheet Fault
with_header line None read = Err (fault line 41)
with_header line (Some h) (Err f) = Err f
with_header line (Some h) (Ok r) = Ok (record { line = line; theorem = h.theorem; loc = h.loc; items = r.items; pairs = r.pairs })

abbrev pub read_whole : ℕ → List Line → Result Sheet Fault
read_whole past [] = Err (fault past 40)
read_whole past (l ∷ ls) = if begins_header l then with_header l.number (header_of (tokens_in (statement_at l ls))) (read_lines past first_reading ls) else Err (fault l.number 40)
