-- Reading a whole text gives the sheet that it says, or its first fault.
use Rattle.std.proofs.Common.{◌≡◌, ℕ, suc, ◌<◌, Bool, true, false, cond, not, ◌&&◌, List, [], ◌∷◌, ◌++◌, Option, Some, None, Result, Ok, Err, refl}
use Rattle.std.proofs.Common.{sym, ap, ◌∙◌, subst, inl, inr, arith, take_while, filter_map, codes, slice_get}
use Rattle.std.specs.Prelude.{is_none}
use Rattle.std.specs.Str.{bytes_eq}
use Rattle.std.proofs.lemmas.Bool.{cases_Bool}
use Rattle.std.proofs.lemmas.Slice.Eq.{bytes_eq-Decides}
use Rattle.mm_model.specs.Faults.{Fault, fault, earlier, or_else, first_fault}
use Rattle.sheet_text.specs.declared.sheet.Sheet.{Sheet}
use Rattle.sheet_text.specs.declared.sheet.SheetItem.{SheetItem}
use Rattle.sheet_text.specs.declared.sheet.PairLine.{PairLine}
use Rattle.sheet_text.specs.Lines.{Line, begins, tokens, tokens_of, lines_not_blank, line_past_end}
use Rattle.sheet_text.specs.SheetStatements.{Statement, statement, statements, statements_where, is_word, tokens_in, line_of, is_footer, is_proof, opens_proof, ends_proof}
use Rattle.sheet_text.specs.Forms.{Header, header_of}
use Rattle.sheet_text.specs.TextFaults.{statement_rules, no_header, statement_fault, closing_fault, line_fault}
use Rattle.sheet_text.specs.Reads.{Reads, sheet_in, sheet_with, items_from, pairs_at}
use Rattle.sheet_read.specs.declared.fault.SheetFault.{SheetFault}
use Rattle.sheet_read.specs.declared.fault.SheetFault.TheVariants as faults
use Rattle.sheet_read.specs.Faults.{IsFault, code_of}
use Rattle.sheet_read.specs.Reading.{Reading, first_reading, read_lines, statement_at}
use Rattle.sheet_read.specs.Whole.{SheetFailsWith, begins_header, with_header, read_whole}
use Rattle.sheet_read.proofs.Basics.{cond_then, cond_else, and_both}
use Rattle.sheet_read.proofs.KindFacts.{begun}
use Rattle.sheet_read.proofs.Order.{Rising, Placed, lines-rising, rising-placed, closing_from, earlier-first}
use Rattle.sheet_read.proofs.Codes.{none-same}
use Rattle.sheet_read.proofs.Law.{Agrees, due, kept, closing-later, right}

-- what reading all answers, and what is right
abbrev Good : Result Sheet Fault → Option Fault → Option Sheet → Type 0
Good (Err f) first sheet = first ≡ Some f
Good (Ok s) first sheet = (first ≡ None) × (sheet ≡ Some s)

good-same : (read : Result Sheet Fault) (o p : Option Fault) (s t : Option Sheet) → p ≡ o → t ≡ s → Good read o s → Good read p t
good-same (Err f) o p s t e d h = e ∙ h
good-same (Ok r) o p s t e d h = (e ∙ h.0, d ∙ h.1)

-- the fault of these lines, and the sheet that they say
abbrev fault_of : ℕ → List Line → Option Fault
fault_of past ls = or_else (no_header past ls) (earlier (statement_fault (statements_where false ls)) (closing_fault past ls (statements_where false ls)))

-- ---- the first line opens the header

record Opens (l : Line) (more : List Line) : Type 0 where
  inked : begins l ≡ true
  opens : opens_proof l ≡ false
  footer : is_footer (statement l more) ≡ false
  proof : is_proof (statement l more) ≡ false

opens : (l : Line) (more : List Line) → begins_header l ≡ true → Opens l more
opens l more h =
    let b : begins l ≡ true = (and_both (begins l) (is_word (codes "$(") (slice_get (tokens l) 0)) h).0 in
    let w : is_word (codes "$(") (slice_get (tokens l) 0) ≡ true = (and_both (begins l) (is_word (codes "$(") (slice_get (tokens l) 0)) h).1 in
    let g = begun l b in
    let first = g.byte ∷ g.more in
    let same : bytes_eq first (codes "$(") ≡ true = ap (λ (ts : List (List ℕ)). is_word (codes "$(") (slice_get ts 0)) (sym g.tokens_are) ∙ w in
    let toks : tokens l ≡ codes "$(" ∷ g.rest = g.tokens_are ∙ ap (λ (t : List ℕ). t ∷ g.rest) ((bytes_eq-Decides first (codes "$(")).0 same) in
    let all : tokens_in (statement l more) ≡ codes "$(" ∷ (g.rest ++ tokens_of more) = ap (λ (ts : List (List ℕ)). ts ++ tokens_of more) toks in
    record {
      inked = b;
      opens = ap (λ (t : Bool). t && is_word (codes "$=") (slice_get (tokens l) 0)) b ∙ ap (λ (ts : List (List ℕ)). is_word (codes "$=") (slice_get ts 0)) toks;
      footer = ap (λ (ts : List (List ℕ)). is_word (codes "$)") (slice_get ts 0)) all;
      proof = ap (λ (ts : List (List ℕ)). is_word (codes "$=") (slice_get ts 0)) all;
    }

-- its statement is the first, is no footer and no proof
header-statements : (l : Line) (ls : List Line) → begins_header l ≡ true → statements_where false (l ∷ ls) ≡ statement_at l ls ∷ statements_where false ls
header-statements l ls h =
    let o = opens l ls h in
    cond_else (opens_proof l) (statement l [] ∷ statements_where (not (ends_proof l)) ls) (cond (begins l) (statement_at l ls ∷ statements_where false ls) (statements_where false ls)) o.opens
    ∙ cond_then (begins l) (statement_at l ls ∷ statements_where false ls) (statements_where false ls) o.inked

header-closing : (past : ℕ) (all : List Line) (l : Line) (ls : List Line) → begins_header l ≡ true
    → closing_fault past all (statement_at l ls ∷ statements_where false ls) ≡ closing_fault past all (statements_where false ls)
header-closing past all l ls h =
    let o = opens l (take_while (λ m. not (begins m)) ls) h in
    closing-later past all (statement_at l ls) (statements_where false ls) o.footer o.proof

-- what was read behind a header
from-agrees : (n : ℕ) (h : Header) (read : Result Reading Fault) (o : Option Fault) (is : List SheetItem) (ps : List PairLine) → Agrees read o is ps
    → Good (with_header n (Some h) read) o (Some (record { line = n; theorem = h.theorem; loc = h.loc; items = is; pairs = ps }))
from-agrees n h (Err f) o is ps a = a
from-agrees n h (Ok r) o is ps a = (
  a.0,
  ap (λ (i : List SheetItem). Some (record { line = n; theorem = h.theorem; loc = h.loc; items = i; pairs = ps })) (sym a.1)
      ∙ ap (λ (q : List PairLine). Some (record { line = n; theorem = h.theorem; loc = h.loc; items = r.items; pairs = q })) (sym a.2),
)

-- with a header, or without
with-header : (past : ℕ) (all : List Line) (l : Line) (ls : List Line) (h : Option Header) → l.number < past → Rising (suc l.number) past ls
    → Placed all ls → header_of (tokens_in (statement_at l ls)) ≡ h
    → Good (with_header l.number h (read_lines past first_reading ls))
    (earlier (statement_fault (statement_at l ls ∷ statements_where false ls)) (closing_fault past all (statements_where false ls)))
    (sheet_with l.number h (kept (statements_where false ls)))
with-header past all l ls None lt rising p e =
    let s = statement_at l ls in
    let ss = statements_where false ls in
    let bad : statement_fault (s ∷ ss) ≡ Some (fault l.number 41) =
    ap (λ (o : Option Header). cond (is_none o) (Some (fault l.number 41)) (first_fault (λ before t. line_of t) statement_rules [] ss)) e in
    ap (λ (o : Option Fault). earlier o (closing_fault past all ss)) bad ∙ earlier-first l.number 41 (closing_fault past all ss) (closing_from (suc l.number) past false all ls (omega arith) rising p)
with-header past all l ls (Some h) lt rising p e =
    let s = statement_at l ls in
    let ss = statements_where false ls in
    let good : statement_fault (s ∷ ss) ≡ first_fault (λ before t. line_of t) statement_rules [] ss =
    ap (λ (o : Option Header). cond (is_none o) (Some (fault l.number 41)) (first_fault (λ before t. line_of t) statement_rules [] ss)) e in
    let read = read_lines past first_reading ls in
    let sheet : Option Sheet = Some (record { line = l.number; theorem = h.theorem; loc = h.loc; items = items_from (kept ss) []; pairs = filter_map pairs_at (kept ss) }) in
    good-same (with_header l.number (Some h) read) (due past all [] None ls) (earlier (statement_fault (s ∷ ss)) (closing_fault past all ss)) sheet sheet
    (ap (λ (o : Option Fault). earlier o (closing_fault past all ss)) good) refl
    (from-agrees l.number h read (due past all [] None ls) (items_from (kept ss) []) (filter_map pairs_at (kept ss)) (right (suc l.number) past all [] [] [] [] None ls rising p none-same))

first-good : (past : ℕ) (ls : List Line) → Rising 1 past ls → Good (read_whole past ls) (fault_of past ls) (sheet_in (statements_where false ls))
first-good past [] rising = refl
first-good past (l ∷ ls) rising =
    let all = l ∷ ls in
    let s = statement_at l ls in
    let ss = statements_where false ls in
    let placed : Placed all ls = (rising-placed 1 past (l ∷ ls) rising).1 in
    let h = header_of (tokens_in s) in
    let read = with_header l.number h (read_lines past first_reading ls) in
    let later : Option Fault = earlier (statement_fault (statements_where false all)) (closing_fault past all (statements_where false all)) in
    elim (cases_Bool (begins_header l)) [
      | inl b ↦
          let whole : read_whole past all ≡ read = cond_then (begins_header l) read (Err (fault l.number 40)) b in
          let first : fault_of past all ≡ later = ap (λ (t : Bool). or_else (cond t None (Some (fault l.number 40))) later) b in
          let rest : later ≡ earlier (statement_fault (s ∷ ss)) (closing_fault past all ss) =
          ap (λ (ts : List Statement). earlier (statement_fault ts) (closing_fault past all ts)) (header-statements l ls b)
          ∙ ap (λ (o : Option Fault). earlier (statement_fault (s ∷ ss)) o) (header-closing past all l ls b) in
          subst (λ (r : Result Sheet Fault). Good r (fault_of past all) (sheet_in (statements_where false all))) (sym whole)
          (good-same read (earlier (statement_fault (s ∷ ss)) (closing_fault past all ss)) (fault_of past all) (sheet_with l.number h (kept ss)) (sheet_in (statements_where false all))
          (first ∙ rest) (ap (λ (ts : List Statement). sheet_in ts) (header-statements l ls b))
          (with-header past all l ls h rising.1 rising.2 placed refl))
      | inr b ↦
          let whole : read_whole past all ≡ Err (fault l.number 40) = cond_else (begins_header l) read (Err (fault l.number 40)) b in
          let first : fault_of past all ≡ Some (fault l.number 40) = ap (λ (t : Bool). or_else (cond t None (Some (fault l.number 40))) later) b in
          subst (λ (r : Result Sheet Fault). Good r (fault_of past all) (sheet_in (statements_where false all))) (sym whole) first
    ]

pub whole-good : (text : List ℕ) → Good (read_whole (line_past_end text) (lines_not_blank text)) (line_fault text) (sheet_in (statements text))
whole-good text = first-good (line_past_end text) (lines_not_blank text) (lines-rising text)

-- ---- the answers

pub sheet-read : (text : List ℕ) (ls : List Line) (past : ℕ) (s : Sheet) → ls ≡ lines_not_blank text → past ≡ line_past_end text → read_whole past ls ≡ Ok s → Reads text s
sheet-read text ls past s e n h =
    let read : read_whole (line_past_end text) (lines_not_blank text) ≡ Ok s = ap (λ (k : ℕ). read_whole k (lines_not_blank text)) (sym n) ∙ ap (λ (ms : List Line). read_whole past ms) (sym e) ∙ h in
    let g : Good (Ok s) (line_fault text) (sheet_in (statements text)) = subst (λ (r : Result Sheet Fault). Good r (line_fault text) (sheet_in (statements text))) read (whole-good text) in
    record { sound = g.0; says = g.1 }

pub fault-read : (text : List ℕ) (ls : List Line) (past : ℕ) (e : SheetFault) → ls ≡ lines_not_blank text → past ≡ line_past_end text
    → SheetFailsWith e (read_whole past ls) → IsFault e (line_fault text)
fault-read text ls past faults.Memory d n h = tt
fault-read text ls past (faults.At code line) d n h =
    let read : read_whole (line_past_end text) (lines_not_blank text) ≡ Err (fault line (code_of code)) =
    ap (λ (k : ℕ). read_whole k (lines_not_blank text)) (sym n) ∙ ap (λ (ms : List Line). read_whole past ms) (sym d) ∙ h in
    subst (λ (r : Result Sheet Fault). Good r (line_fault text) (sheet_in (statements text))) read (whole-good text)
