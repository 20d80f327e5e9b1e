-- The first fault of a worksheet's text.
use Rattle.std.specs.Prelude.{ℕ, Bool, false, not, ◌&&◌, ◌||◌, ◌==◌, List, [], ◌∷◌, length, nat_lt, is_none, if◌then◌else◌, filter_map, slice_get, Option, Some, None, option_map, codes}
use Rattle.std.specs.Option.{option_map_or}
use Rattle.std.specs.Str.{bytes_eq}
use Rattle.std.specs.List.{list_any}
use Rattle.mm_base.specs.Limits.{most_sheet_bytes}
use Rattle.mm_model.specs.Faults.{Fault, fault, earlier, or_else, first_fault}
use Rattle.mm_model.specs.Names.{contains, has_twice}
use Rattle.sheet_text.specs.Lines.{Line, begins, tokens, lines_not_blank, line_past_end}
use Rattle.sheet_text.specs.SheetStatements.{Statement, statements, line_of, tokens_in, is_word, is_footer, is_distinct, is_proof, is_comment, ends_proof}
use Rattle.sheet_text.specs.Forms.{StepForm, header_of, step_of}

-- a statement as a step, where it has that form
abbrev pub step_in : Statement → Option StepForm
step_in s = if is_comment s then None else step_of (tokens_in s)

-- the names of the steps among statements
abbrev pub names_in : List Statement → List (List ℕ)
names_in ss = filter_map (λ s. option_map (λ (f : StepForm). f.name) (step_in s)) ss

-- the statement is a step that passes
abbrev pub on_step : (StepForm → Bool) → Statement → Bool
on_step p s = option_map_or p (step_in s) false

abbrev pub is_qed : StepForm → Bool
is_qed f = bytes_eq f.name (codes "qed")

-- 44: no comment, no form of a step, and no `$d`, `$=` or `$)`
abbrev pub bad_step : List Statement → Statement → Bool
bad_step before s = not (is_comment s) && is_none (step_in s) && not (is_distinct s) && not (is_proof s) && not (is_footer s)

-- 45: a step's name that an earlier step has
abbrev pub name_twice : List Statement → Statement → Bool
name_twice before s = on_step (λ f. contains (names_in before) f.name) s

-- 46: a place that names no earlier step
abbrev pub hyp_unknown : List Statement → Statement → Bool
hyp_unknown before s = on_step (λ f. list_any (λ e. not (contains (names_in before) e)) (filter_map (λ (e : Option (List ℕ)). e) f.entries)) s

-- 47: a step after `qed`, a hypothesis named `qed`, or the footer where no step is named `qed`
abbrev pub qed_place : List Statement → Statement → Bool
qed_place before s = on_step (λ f. contains (names_in before) (codes "qed") || (is_qed f && f.hyp)) s || (is_footer s && not (contains (names_in before) (codes "qed")))

abbrev pub is_end : List ℕ → Bool
is_end t = bytes_eq t (codes "$.")

-- the tokens without a last `$.`
abbrev pub without_end : List (List ℕ) → List (List ℕ)
without_end [] = []
without_end (t ∷ []) = if is_end t then [] else t ∷ []
without_end (t ∷ u ∷ ts) = t ∷ without_end (u ∷ ts)

-- the symbols of a `$d`, by all its tokens
abbrev pub symbols_of : List (List ℕ) → List (List ℕ)
symbols_of [] = []
symbols_of (t ∷ ts) = without_end ts

-- 49: `$d` with fewer than two symbols, with one symbol twice, or with a `$.` before its last token
abbrev pub is_bad_distinct : List (List ℕ) → Bool
is_bad_distinct symbols = nat_lt (length symbols) 2 || has_twice symbols || list_any is_end symbols

abbrev pub bad_distinct : List Statement → Statement → Bool
bad_distinct before s = is_distinct s && is_bad_distinct (symbols_of (tokens_in s))

-- the rules of the statements behind the header
abbrev pub statement_rules : List (ℕ × (List Statement → Statement → Bool))
statement_rules = (44, bad_step) ∷ (45, name_twice) ∷ (46, hyp_unknown) ∷ (47, qed_place) ∷ (49, bad_distinct) ∷ []

-- 40: the first line that is not blank does not begin in column 1 with the token `$(`, or there is none
abbrev pub no_header : ℕ → List Line → Option Fault
no_header past [] = Some (fault past 40)
no_header past (l ∷ ls) = if begins l && is_word (codes "$(") (slice_get (tokens l) 0) then None else Some (fault l.number 40)

-- 41: the first statement is no header; then the rules of the others
abbrev pub statement_fault : List Statement → Option Fault
statement_fault [] = None
statement_fault (s ∷ ss) = if is_none (header_of (tokens_in s)) then Some (fault (line_of s) 41) else first_fault (λ before t. line_of t) statement_rules [] ss

-- the lines from the one with this number on
abbrev pub lines_from : ℕ → List Line → List Line
lines_from n [] = []
lines_from n (l ∷ ls) = if l.number == n then l ∷ ls else lines_from n ls

-- 43: the line of the first token behind the footer's `$)`; these are the lines from the footer on
abbrev pub past_footer : List Line → Option Fault
past_footer [] = None
past_footer (l ∷ []) = if nat_lt 1 (length (tokens l)) then Some (fault l.number 43) else None
past_footer (l ∷ m ∷ ls) = if nat_lt 1 (length (tokens l)) then Some (fault l.number 43) else Some (fault m.number 43)

-- what closes the sheet: its first footer, with 43; or a proof without its end, 48 at its first line; where there is neither, 42
abbrev pub closing_fault : ℕ → List Line → List Statement → Option Fault
closing_fault past ls [] = Some (fault past 42)
closing_fault past ls (s ∷ ss) =
    if is_footer s then past_footer (lines_from (line_of s) ls)
    else (if is_proof s && not (list_any ends_proof (lines_from (line_of s) ls)) then Some (fault (line_of s) 48)
    else closing_fault past ls ss)

-- the first fault of 40 to 49, by line and then code
abbrev pub line_fault : List ℕ → Option Fault
line_fault text = or_else (no_header (line_past_end text) (lines_not_blank text))
    (earlier (statement_fault (statements text)) (closing_fault (line_past_end text) (lines_not_blank text) (statements text)))

-- 50: more than 2^24 bytes, before all others
abbrev pub text_fault : List ℕ → Option Fault
text_fault text = if nat_lt most_sheet_bytes (length text) then Some (fault 1 50) else line_fault text
