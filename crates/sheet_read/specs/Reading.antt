-- Reading from line to line, with the first fault that is met. This is part of the proof, and not of the claim.
use Rattle.std.specs.Prelude.{◌≡◌, ℕ, Bool, true, false, not, ◌&&◌, ◌||◌, List, [], ◌∷◌, ◌++◌, length, nat_lt, map, filter_map, take_while, Option}
use Rattle.std.specs.Prelude.{Some, None, Result, Ok, Err, if◌then◌else◌, slice_get, option_map, codes}
use Rattle.std.specs.List.{list_any}
use Rattle.std.specs.Str.{bytes_eq}
use Rattle.mm_model.specs.Faults.{Fault, fault}
use Rattle.mm_model.specs.Names.{contains}
use Rattle.sheet_text.specs.declared.sheet.Given.{Given}
use Rattle.sheet_text.specs.declared.sheet.SheetItem.{SheetItem}
use Rattle.sheet_text.specs.declared.sheet.SheetItem.TheVariants as item
use Rattle.sheet_text.specs.declared.sheet.PairLine.{PairLine}
use Rattle.sheet_text.specs.Lines.{Line, begins, tokens}
use Rattle.sheet_text.specs.SheetStatements.{Statement, statement, tokens_in, starts_with_star, ends_proof}
use Rattle.sheet_text.specs.Forms.{StepForm, entry_of, step_of}
use Rattle.sheet_text.specs.TextFaults.{is_qed, is_bad_distinct, symbols_of}
use Rattle.sheet_text.specs.Reads.{given_of, step_at, comment_of}
use Rattle.sheet_read.specs.declared.lines.LineKind.{LineKind}
use Rattle.sheet_read.specs.declared.lines.LineKind.TheVariants as kind

-- what a first token makes of its line
abbrev pub kind_of_token : List ℕ → LineKind
kind_of_token t = if bytes_eq t (codes "$d") then kind.Distinct else (if bytes_eq t (codes "$=") then kind.Proof else (if bytes_eq t (codes "$)") then kind.Footer else kind.Step))

abbrev pub kind_of_first : Option (List ℕ) → LineKind
kind_of_first None = kind.Step
kind_of_first (Some t) = kind_of_token t

abbrev pub kind_of : Line → LineKind
kind_of l = if begins l then (if starts_with_star l.bytes then kind.Comment else kind_of_first (slice_get (tokens l) 0)) else kind.Indented

-- what was read so far: the names of the steps, the comments and steps, the `$d` statements, and the line of a proof that is not ended
pub record Reading : Type 0 where
  pub names : List (List ℕ)
  pub items : List SheetItem
  pub pairs : List PairLine
  pub proof : Option ℕ

abbrev pub first_reading : Reading
first_reading = record { names = []; items = []; pairs = []; proof = None }

-- the statement that begins at a line
abbrev pub statement_at : Line → List Line → Statement
statement_at l ls = statement l (take_while (λ m. not (begins m)) ls)

-- some place names no step
abbrev pub is_unknown : List (List ℕ) → List (Option (List ℕ)) → Bool
is_unknown names entries = list_any (λ e. not (contains names e)) (filter_map (λ (e : Option (List ℕ)). e) entries)

-- the places that entries are, where each names a step; else none
abbrev pub AreGiven : List (List ℕ) → List (List ℕ) → Option (List Given) → Type 0
AreGiven names entries None = is_unknown names (map entry_of entries) ≡ true
AreGiven names entries (Some places) = (is_unknown names (map entry_of entries) ≡ false) × (places ≡ map (given_of names) (map entry_of entries))

-- `qed` stands before, or is a hypothesis
abbrev pub is_misplaced : List (List ℕ) → StepForm → Bool
is_misplaced names f = contains names (codes "qed") || (is_qed f && f.hyp)

-- the code of a step's fault
abbrev pub step_code : List (List ℕ) → Option StepForm → Option ℕ
step_code names None = Some 44
step_code names (Some f) = if contains names f.name then Some 45 else (if is_unknown names f.entries then Some 46 else (if is_misplaced names f then Some 47 else None))

abbrev pub distinct_code : List (List ℕ) → Option ℕ
distinct_code symbols = if is_bad_distinct symbols then Some 49 else None

-- a token behind the footer's line
abbrev pub behind_footer : List Line → Option Fault
behind_footer [] = None
behind_footer (m ∷ ms) = Some (fault m.number 43)

-- the fault of a footer, with the lines behind it
abbrev pub footer_fault : List (List ℕ) → Line → List Line → Option Fault
footer_fault names l ls = if nat_lt 1 (length (tokens l)) then Some (fault l.number 43) else (if contains names (codes "qed") then behind_footer ls else Some (fault l.number 47))

-- a code at a line, as a fault
abbrev pub at_line : ℕ → Option ℕ → Option Fault
at_line n code = option_map (λ c. fault n c) code

abbrev pub fault_with : LineKind → Reading → Line → List Line → Option Fault
fault_with kind.Indented r l ls = None
fault_with kind.Comment r l ls = None
fault_with kind.Proof r l ls = None
fault_with kind.Distinct r l ls = at_line l.number (distinct_code (symbols_of (tokens_in (statement_at l ls))))
fault_with kind.Footer r l ls = footer_fault r.names l ls
fault_with kind.Step r l ls = at_line l.number (step_code r.names (step_of (tokens_in (statement_at l ls))))

-- with a comment, with a `$d` statement at a line, and with the step that these tokens are
abbrev pub with_comment : Reading → Statement → Reading
with_comment r s = record r { items = r.items ++ comment_of s ∷ [] }

abbrev pub with_pair : Reading → ℕ → List (List ℕ) → Reading
with_pair r line symbols = record r { pairs = r.pairs ++ record { line = line; names = symbols } ∷ [] }

abbrev pub with_step : Reading → ℕ → Option StepForm → Reading
with_step r line None = r
with_step r line (Some f) = record r { names = r.names ++ f.name ∷ []; items = r.items ++ item.Step (step_at line r.names f) ∷ [] }

abbrev pub proof_from : Line → Option ℕ
proof_from l = if ends_proof l then None else Some l.number

abbrev pub with_kind : LineKind → Reading → Line → List Line → Reading
with_kind kind.Indented r l ls = r
with_kind kind.Comment r l ls = with_comment r (statement_at l ls)
with_kind kind.Proof r l ls = record r { proof = proof_from l }
with_kind kind.Distinct r l ls = with_pair r l.number (symbols_of (tokens_in (statement_at l ls)))
with_kind kind.Footer r l ls = r
with_kind kind.Step r l ls = with_step r l.number (step_of (tokens_in (statement_at l ls)))

abbrev pub is_footer_kind : LineKind → Bool
is_footer_kind kind.Footer = true
is_footer_kind _ = false

-- a line by whether a proof is open: its fault, what is read with it, and whether it is the footer
abbrev pub fault_in : Option ℕ → Reading → Line → List Line → Option Fault
fault_in None r l ls = fault_with (kind_of l) r l ls
fault_in (Some n) r l ls = None

abbrev pub with_in : Option ℕ → Reading → Line → List Line → Reading
with_in None r l ls = with_kind (kind_of l) r l ls
with_in (Some n) r l ls = record r { proof = if ends_proof l then None else Some n }

abbrev pub ends_in : Option ℕ → Line → Bool
ends_in None l = is_footer_kind (kind_of l)
ends_in (Some n) l = false

abbrev pub fault_at : Reading → Line → List Line → Option Fault
fault_at r l ls = fault_in r.proof r l ls

abbrev pub with_line : Reading → Line → List Line → Reading
with_line r l ls = with_in r.proof r l ls

abbrev pub ends_at : Reading → Line → Bool
ends_at r l = ends_in r.proof l

-- the fault of a sheet that ends without its footer
abbrev pub unended : ℕ → Option ℕ → Fault
unended past None = fault past 42
unended past (Some n) = fault n 48

abbrev pub go_on : Option Fault → Bool → Reading → Result Reading Fault → Result Reading Fault
go_on (Some f) ends r rest = Err f
go_on None true r rest = Ok r
go_on None false r rest = rest

-- the lines of a sheet behind its header's first line, where the line past the last has this number
abbrev pub read_lines : ℕ → Reading → List Line → Result Reading Fault
read_lines past r [] = Err (unended past r.proof)
read_lines past r (l ∷ ls) = go_on (fault_at r l ls) (ends_at r l) r (read_lines past (with_line r l ls) ls)
