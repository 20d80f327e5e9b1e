-- The answers that the text of a worksheet alone decides.
use Rattle.std.specs.Prelude.{◌≡◌, ◌<◌, ◌≤◌, ◌^◌, ℕ, true, false, nat_lt, List, length, Some, refl}
use Rattle.std.proofs.Common.{◌∙◌, arith}
use Rattle.std.proofs.lemmas.Bool.Decides.{nat_tests}
use Rattle.mm_model.specs.Book.{Database}
use Rattle.mm_model.specs.Faults.{fault}
use Rattle.sheet_text.specs.declared.sheet.Sheet.{Sheet}
use Rattle.sheet_text.specs.Reads.{Reads}
use Rattle.sheet_text.specs.TextFaults.{text_fault, line_fault}
use Rattle.sheet_read.specs.declared.fault.SheetCode.{SheetCode}
use Rattle.sheet_read.specs.declared.fault.SheetFault.{SheetFault}
use Rattle.sheet_read.specs.declared.fault.SheetFault.TheVariants as read
use Rattle.sheet_read.specs.Faults.{code_of, IsFault}
use Rattle.sheet_unify.specs.declared.faults.UnifyFault.TheVariants as faults
use Rattle.sheet_unify.specs.Answered.{SaysSheet, IsFaultOf}
use Rattle.sheet_unify.specs.Told.{of_text}
use Rattle.written_model.specs.declared.options.Options.{Options}
use Rattle.written_model.specs.Written.{bad_text}

longer : (n most : ℕ) → most < n → nat_lt most n ≡ true
longer n most h = grind (arith, nat_tests)

not_longer : (n most : ℕ) → n ≤ most → nat_lt most n ≡ false
not_longer n most h = grind (arith, nat_tests)

short_fault : (text : List ℕ) → length text ≤ 2 ^ 24 → text_fault text ≡ line_fault text
short_fault text short = rw (not_longer (length text) (2 ^ 24) short) refl

pub says_of : (text : List ℕ) (sheet : Sheet) → length text ≤ 2 ^ 24 → Reads text sheet → SaysSheet text sheet
says_of text sheet short reads = record { sound = short_fault text short ∙ reads.sound; reads = reads }

pub too_big : (db : Database) (text : List ℕ) (options : Options) → 2 ^ 24 < length text → IsFaultOf db text options faults.TooBig
too_big db text options long = bad_text (rw (longer (length text) (2 ^ 24) long) refl)

text_faulty : (db : Database) (text : List ℕ) (options : Options) (code : SheetCode) (line : ℕ) → length text ≤ 2 ^ 24 → line_fault text ≡ Some (fault line (code_of code))
    → IsFaultOf db text options (faults.Sheet code line)
text_faulty db text options code line short is = bad_text (short_fault text short ∙ is)

-- the reader's error, as it is told
pub told_faulty : (db : Database) (text : List ℕ) (options : Options) (f : SheetFault) → length text ≤ 2 ^ 24 → IsFault f (line_fault text) → IsFaultOf db text options (of_text f)
told_faulty db text options (read.At code line) short is = text_faulty db text options code line short is
told_faulty db text options read.Memory short is = tt
