-- From line to line: what was read, and the lines that are left.
use Rattle.std.proofs.Common.{◌≡◌, ℕ, suc, ◌+◌, ◌<◌, ◌≤◌, Bool, false, List, [], ◌∷◌, length, take, drop, get_or, ◌-◌, drop-cons, Option, Some, None}
use Rattle.std.proofs.Common.{sym, ap, ◌∙◌, subst, arith, length-append}
use Rattle.std.proofs.lemmas.List.{take_all, length-drop}
use Rattle.mm_model.specs.Faults.{Fault}
use Rattle.sheet_text.specs.Lines.{Line}
use Rattle.sheet_text.specs.SheetStatements.{tokens_in}
use Rattle.sheet_text.specs.Forms.{StepForm, step_of}
use Rattle.sheet_read.specs.declared.lines.LineKind.{LineKind}
use Rattle.sheet_read.specs.declared.lines.LineKind.TheVariants as kind
use Rattle.sheet_read.specs.declared.lines.TextLine.{TextLine}
use Rattle.sheet_read.specs.Parts.{line_in, lines_in}
use Rattle.sheet_read.specs.Reading.{Reading, first_reading, read_lines, go_on, fault_at, ends_at, with_line, with_kind, with_in, with_step, kind_of, statement_at}

-- reading on from here gives what reading all gives
pub record Walks (past : ℕ) (r : Reading) (rest all : List Line) : Type 0 where
  pub eq : read_lines past r rest ≡ read_lines past first_reading all

-- ---- at most one more name

few-step : (r : Reading) (n : ℕ) (st : Option StepForm) → length (with_step r n st).names ≤ suc (length r.names)
few-step r n None = omega arith
few-step r n (Some f) = omega (arith, length-append r.names (f.name ∷ []))

few-kind : (k : LineKind) (r : Reading) (l : Line) (ls : List Line) → length (with_kind k r l ls).names ≤ suc (length r.names)
few-kind kind.Indented r l ls = omega arith
few-kind kind.Comment r l ls = omega arith
few-kind kind.Distinct r l ls = omega arith
few-kind kind.Proof r l ls = omega arith
few-kind kind.Footer r l ls = omega arith
few-kind kind.Step r l ls = few-step r l.number (step_of (tokens_in (statement_at l ls)))

few-in : (o : Option ℕ) (r : Reading) (l : Line) (ls : List Line) → length (with_in o r l ls).names ≤ suc (length r.names)
few-in None r l ls = few-kind (kind_of l) r l ls
few-in (Some n) r l ls = omega arith

pub few-line : (r : Reading) (l : Line) (ls : List Line) → length (with_line r l ls).names ≤ suc (length r.names)
few-line r l ls = few-in r.proof r l ls

-- ---- one line

goes : (past : ℕ) (r : Reading) (l : Line) (ls : List Line) → fault_at r l ls ≡ None → ends_at r l ≡ false → read_lines past r (l ∷ ls) ≡ read_lines past (with_line r l ls) ls
goes past r l ls f e = ap (λ (o : Option Fault). go_on o (ends_at r l) r (read_lines past (with_line r l ls) ls)) f ∙ ap (λ (b : Bool). go_on None b r (read_lines past (with_line r l ls) ls)) e

behind : (ts : List TextLine) (at : ℕ) → take (length ts - (at + 1)) (drop (at + 1) ts) ≡ drop (at + 1) ts
behind ts at = take_all (length ts - (at + 1)) (drop (at + 1) ts) (omega (arith, length-drop (at + 1) ts))

here : (ts : List TextLine) (at : ℕ) (d : TextLine) → at < length ts → lines_in (drop at ts) ≡ line_in (get_or ts at d) ∷ lines_in (drop (at + 1) ts)
here ts at d lt = let one : suc at ≡ at + 1 = omega arith in ap lines_in (drop-cons ts at d lt) ∙ ap (λ (k : ℕ). line_in (get_or ts at d) ∷ lines_in (drop k ts)) one

pub walks-more : (past : ℕ) (ts : List TextLine) (at : ℕ) (d : TextLine) (r new : Reading) → at < length ts
    → fault_at r (line_in (get_or ts at d)) (lines_in (take (length ts - (at + 1)) (drop (at + 1) ts))) ≡ None
    → ends_at r (line_in (get_or ts at d)) ≡ false
    → new ≡ with_line r (line_in (get_or ts at d)) (lines_in (take (length ts - (at + 1)) (drop (at + 1) ts)))
    → length r.names ≤ at → Walks past r (lines_in (drop at ts)) (lines_in ts)
    → (length new.names ≤ at + 1) × Walks past new (lines_in (drop (at + 1) ts)) (lines_in ts)
walks-more past ts at d r new lt f e n few h =
    let l = line_in (get_or ts at d) in
    let ls = lines_in (drop (at + 1) ts) in
    let b = behind ts at in
    let f' : fault_at r l ls ≡ None = ap (λ (us : List TextLine). fault_at r l (lines_in us)) (sym b) ∙ f in
    let n' : new ≡ with_line r l ls = n ∙ ap (λ (us : List TextLine). with_line r l (lines_in us)) b in
    let more = few-line r l ls in (
      subst (λ (q : Reading). length q.names ≤ at + 1) (sym n') (omega arith),
      record { eq = ap (λ (q : Reading). read_lines past q ls) n' ∙ sym (goes past r l ls f' e) ∙ ap (λ (ms : List Line). read_lines past r ms) (sym (here ts at d lt)) ∙ h.eq },
    )
