-- A text without a fault of its lines reads as a sheet.
use Rattle.std.specs.Prelude.{◌≡◌, ℕ, List, [], ◌∷◌, Bool, true, false, Option, Some, None, is_none, if◌then◌else◌, refl}
use Rattle.mm_model.specs.Faults.{Fault, or_else, earlier, comes_first}
use Rattle.sheet_text.specs.declared.sheet.Sheet.{Sheet}
use Rattle.sheet_text.specs.Forms.{Header, header_of}
use Rattle.sheet_text.specs.Lines.{Line, line_past_end, lines_not_blank}
use Rattle.sheet_text.specs.Reads.{sheet_in, sheet_with}
use Rattle.sheet_text.specs.SheetStatements.{Statement, statements, line_of, tokens_in}
use Rattle.sheet_text.specs.TextFaults.{no_header, statement_fault, closing_fault}
use Rattle.written_model.specs.ReadBack.{SoundIsRead}

no_other : (p q : Option Fault) → or_else p q ≡ None → q ≡ None
no_other None q e = e
no_other (Some f) q e = absurd (cc)

some_first : (f g : Fault) → earlier (Some f) (Some g) ≡ None → ⊥
some_first f g e = by_order (comes_first f g) e
  where
    by_order : (b : Bool) → (if b then Some f else Some g) ≡ None → ⊥
    by_order true e = absurd (cc)
    by_order false e = absurd (cc)

neither : (p q : Option Fault) → earlier p q ≡ None → (p ≡ None) × (q ≡ None)
neither None q e = (refl, e)
neither (Some f) None e = absurd (cc)
neither (Some f) (Some g) e = absurd (some_first f g e)

-- a header makes a sheet
headed : (line : ℕ) (o : Option Header) (ss : List Statement) (f : Fault) (later : Option Fault) → (if is_none o then Some f else later) ≡ None → (s : Sheet) × (sheet_with line o ss ≡ Some s)
headed line None ss f later e = absurd (cc)
headed line (Some h) ss f later e = (_, refl)

-- where there are no statements the footer is missed
some_sheet : (past : ℕ) (ls : List Line) (ss : List Statement) → statement_fault ss ≡ None → closing_fault past ls ss ≡ None → (s : Sheet) × (sheet_in ss ≡ Some s)
some_sheet past ls [] e closed = absurd (cc)
some_sheet past ls (t ∷ ss) e closed = headed (line_of t) (header_of (tokens_in t)) _ _ _ e

pub sound_is_read : SoundIsRead
sound_is_read text e =
    let first = no_header (line_past_end text) (lines_not_blank text) in
    let faults = neither (statement_fault (statements text)) (closing_fault (line_past_end text) (lines_not_blank text) (statements text)) (no_other first _ e) in
    let sheet = some_sheet (line_past_end text) (lines_not_blank text) (statements text) faults.0 faults.1 in
    (sheet.0, record { sound = e; says = sheet.1 })
