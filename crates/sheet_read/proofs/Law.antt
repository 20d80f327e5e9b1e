-- Reading from line to line gives the comments, steps and `$d` statements, or the first fault by the table.
use Rattle.std.proofs.Common.{◌≡◌, ℕ, suc, ◌<◌, Bool, true, false, cond, not, ◌||◌, List, [], ◌∷◌, ◌++◌, length, Option, None, Some, Result, Ok, Err}
use Rattle.std.proofs.Common.{option_map, refl, sym, ap, ◌∙◌, subst, inl, inr, arith, take_while, filter_map, append_assoc, append-nil, codes}
use Rattle.std.specs.Prelude.{nat_lt}
use Rattle.std.specs.List.{list_any}
use Rattle.std.proofs.lemmas.Bool.{cases_Bool}
use Rattle.std.proofs.lemmas.List.Sums.{take_while-cons}
use Rattle.mm_model.specs.Faults.{Fault, fault, earlier, or_else, first_code, first_fault}
use Rattle.mm_model.specs.Names.{contains}
use Rattle.sheet_text.specs.declared.sheet.SheetItem.{SheetItem}
use Rattle.sheet_text.specs.declared.sheet.SheetItem.TheVariants as item
use Rattle.sheet_text.specs.declared.sheet.PairLine.{PairLine}
use Rattle.sheet_text.specs.Lines.{Line, begins, tokens}
use Rattle.sheet_text.specs.SheetStatements.{Statement, statement, statements_where, line_of, tokens_in, is_footer, is_proof, is_comment, is_distinct, opens_proof, ends_proof}
use Rattle.sheet_text.specs.Forms.{StepForm, step_of}
use Rattle.sheet_text.specs.TextFaults.{statement_rules, step_in, symbols_of, lines_from, past_footer, closing_fault}
use Rattle.sheet_text.specs.Reads.{items_from, items_at, pairs_at, comment_of, step_at}
use Rattle.sheet_read.specs.declared.lines.LineKind.{LineKind}
use Rattle.sheet_read.specs.declared.lines.LineKind.TheVariants as kind
use Rattle.sheet_read.specs.Reading.{Reading, kind_of, statement_at, fault_with, with_kind, is_footer_kind, step_code, distinct_code, with_step}
use Rattle.sheet_read.specs.Reading.{proof_from, behind_footer, footer_fault, go_on, read_lines}
use Rattle.sheet_read.proofs.Basics.{cond_then, cond_else}
use Rattle.sheet_read.proofs.KindFacts.{Facts, facts}
use Rattle.sheet_read.proofs.Order.{Rising, Placed, IsFrom, rising-weaker, earlier-first, earlier-43, faults_late, faults_from, or_from, closing_from}
use Rattle.sheet_read.proofs.Codes.{Same, same-kept, same-more, code_by, step_code-same}

abbrev faults : List Statement → List Statement → Option Fault
faults before ss = first_fault (λ b s. line_of s) statement_rules before ss

-- the statements up to the footer
abbrev pub kept : List Statement → List Statement
kept ss = take_while (λ t. not (is_footer t)) ss

abbrev pub statements_for : Option ℕ → List Line → List Statement
statements_for None ls = statements_where false ls
statements_for (Some n) ls = statements_where true ls

-- the first fault from here on, where a proof may be open
abbrev pub due : ℕ → List Line → List Statement → Option ℕ → List Line → Option Fault
due past all before None ls = earlier (faults before (statements_where false ls)) (closing_fault past all (statements_where false ls))
due past all before (Some n) ls = earlier (faults before (statements_where true ls)) (cond (list_any ends_proof ls) (closing_fault past all (statements_where true ls)) (Some (fault n 48)))

-- what reading answers, and what is right
abbrev pub Agrees : Result Reading Fault → Option Fault → List SheetItem → List PairLine → Type 0
Agrees (Err f) first items pairs = first ≡ Some f
Agrees (Ok r) first items pairs = (first ≡ None) × (r.items ≡ items) × (r.pairs ≡ pairs)

agrees-same : (read : Result Reading Fault) (o p : Option Fault) (is js : List SheetItem) (ps qs : List PairLine) → p ≡ o → js ≡ is → qs ≡ ps → Agrees read o is ps → Agrees read p js qs
agrees-same (Err f) o p is js ps qs e d q h = e ∙ h
agrees-same (Ok r) o p is js ps qs e d q h = (e ∙ h.0, h.1 ∙ sym d, h.2 ∙ sym q)

abbrev reading : List (List ℕ) → List SheetItem → List PairLine → Option ℕ → Reading
reading names items pairs proof = record { names = names; items = items; pairs = pairs; proof = proof }

-- the claim at the lines from here on
abbrev pub Right : ℕ → List Line → List Statement → Reading → List Line → Type 0
Right past all before r ls =
    Agrees (read_lines past r ls) (due past all before r.proof ls) (r.items ++ items_from (kept (statements_for r.proof ls)) r.names)
    (r.pairs ++ filter_map pairs_at (kept (statements_for r.proof ls)))

-- ---- a statement that does not close the sheet

faults-later : (before : List Statement) (s : Statement) (ss : List Statement) → first_code statement_rules before s ≡ None → faults before (s ∷ ss) ≡ faults (s ∷ before) ss
faults-later before s ss e = ap (λ (o : Option ℕ). or_else (option_map (λ code. fault (line_of s) code) o) (faults (s ∷ before) ss)) e

faults-here : (before : List Statement) (s : Statement) (ss : List Statement) (c : ℕ) → first_code statement_rules before s ≡ Some c → faults before (s ∷ ss) ≡ Some (fault (line_of s) c)
faults-here before s ss c e = ap (λ (o : Option ℕ). or_else (option_map (λ code. fault (line_of s) code) o) (faults (s ∷ before) ss)) e

pub closing-later : (past : ℕ) (all : List Line) (s : Statement) (ss : List Statement) → is_footer s ≡ false → is_proof s ≡ false → closing_fault past all (s ∷ ss) ≡ closing_fault past all ss
closing-later past all s ss f p = rw (f, p) refl

kept-more : (s : Statement) (ss : List Statement) → is_footer s ≡ false → kept (s ∷ ss) ≡ s ∷ kept ss
kept-more s ss f = take_while-cons (λ t. not (is_footer t)) s ss ∙ ap (λ (b : Bool). cond (not b) (s ∷ kept ss) []) f

-- a fault at this statement
stops : (past n c : ℕ) (all : List Line) (before : List Statement) (s : Statement) (ls : List Line) (in_proof : Bool) → n ≡ line_of s → n < past
    → Rising (suc n) past ls → Placed all ls → is_footer s ≡ false → is_proof s ≡ false → first_code statement_rules before s ≡ Some c
    → earlier (faults before (s ∷ statements_where in_proof ls)) (closing_fault past all (s ∷ statements_where in_proof ls)) ≡ Some (fault n c)
stops past n c all before s ls in_proof at lt h p f q e =
    let ss = statements_where in_proof ls in
    let later : IsFrom (suc n) (closing_fault past all ss) = closing_from (suc n) past in_proof all ls (omega arith) h p in
    ap (λ (o : Option Fault). earlier o (closing_fault past all (s ∷ ss))) (faults-here before s ss c e)
    ∙ ap (λ (o : Option Fault). earlier (Some (fault (line_of s) c)) o) (closing-later past all s ss f q)
    ∙ ap (λ (m : ℕ). earlier (Some (fault m c)) (closing_fault past all ss)) (sym at)
    ∙ earlier-first n c (closing_fault past all ss) later

kept-foot : (s : Statement) (ss : List Statement) → is_footer s ≡ true → kept (s ∷ ss) ≡ []
kept-foot s ss f = take_while-cons (λ t. not (is_footer t)) s ss ∙ ap (λ (b : Bool). cond (not b) (s ∷ kept ss) []) f

-- what is read with one statement
items-none : (names : List (List ℕ)) (s : Statement) (ts : List Statement) (c : Bool) → step_in s ≡ None → is_comment s ≡ c
    → items_from (s ∷ ts) names ≡ cond c (comment_of s ∷ items_from ts names) (items_from ts names)
items-none names s ts c e f = ap (λ (o : Option StepForm). items_at names s o (items_from ts)) e ∙ ap (λ (b : Bool). cond b (comment_of s ∷ items_from ts names) (items_from ts names)) f

items-some : (names : List (List ℕ)) (s : Statement) (ts : List Statement) (f : StepForm) → step_in s ≡ Some f
    → items_from (s ∷ ts) names ≡ item.Step (step_at (line_of s) names f) ∷ items_from ts (names ++ f.name ∷ [])
items-some names s ts f e = ap (λ (o : Option StepForm). items_at names s o (items_from ts)) e

pairs-none : (s : Statement) (ts : List Statement) → is_distinct s ≡ false → filter_map pairs_at (s ∷ ts) ≡ filter_map pairs_at ts
pairs-none s ts d = rw d refl

pairs-some : (s : Statement) (ts : List Statement) → is_distinct s ≡ true → filter_map pairs_at (s ∷ ts) ≡ record { line = line_of s; names = symbols_of (tokens_in s) } ∷ filter_map pairs_at ts
pairs-some s ts d = rw d refl

onto : {X : Type 0} (xs : List X) (y : X) (ys zs : List X) → zs ≡ y ∷ ys → xs ++ zs ≡ (xs ++ y ∷ []) ++ ys
onto xs y ys zs e = ap (λ l. xs ++ l) e ∙ sym (append_assoc xs (y ∷ []) ys)

-- ---- the claim at a statement, and behind it

abbrev Claim : ℕ → List Line → List Statement → Reading → Result Reading Fault → Statement → List Statement → Type 0
Claim past all before r read s ss =
    Agrees read (earlier (faults before (s ∷ ss)) (closing_fault past all (s ∷ ss))) (r.items ++ items_from (kept (s ∷ ss)) r.names)
    (r.pairs ++ filter_map pairs_at (kept (s ∷ ss)))

abbrev Rest : ℕ → List Line → List Line → Type 0
Rest past all ls =
    (before : List Statement) (names : List (List ℕ)) (items : List SheetItem) (pairs : List PairLine) (proof : Option ℕ) → Same before names
    → Right past all before (reading names items pairs proof) ls

due-later : (past : ℕ) (all : List Line) (before : List Statement) (s : Statement) (ss : List Statement) → is_footer s ≡ false → is_proof s ≡ false → first_code statement_rules before s ≡ None
    → earlier (faults before (s ∷ ss)) (closing_fault past all (s ∷ ss)) ≡ earlier (faults (s ∷ before) ss) (closing_fault past all ss)
due-later past all before s ss f p e =
    ap (λ (o : Option Fault). earlier o (closing_fault past all (s ∷ ss))) (faults-later before s ss e)
    ∙ ap (λ (o : Option Fault). earlier (faults (s ∷ before) ss) o) (closing-later past all s ss f p)

comment-claim : (past : ℕ) (all : List Line) (before : List Statement) (names : List (List ℕ)) (items : List SheetItem) (pairs : List PairLine)
    (l : Line) (ls : List Line)
    → Facts kind.Comment (statement_at l ls) → Same before names → Rest past all ls
    → let r = reading names items pairs None in Claim past all before r (read_lines past (with_kind kind.Comment r l ls) ls) (statement_at l ls) (statements_where false ls)
comment-claim past all before names items pairs l ls h same rest =
    let s = statement_at l ls in
    let ss = statements_where false ls in
    let r = reading names items pairs None in
    agrees-same (read_lines past (with_kind kind.Comment r l ls) ls) (earlier (faults (s ∷ before) ss) (closing_fault past all ss))
    (earlier (faults before (s ∷ ss)) (closing_fault past all (s ∷ ss)))
    ((items ++ comment_of s ∷ []) ++ items_from (kept ss) names) (items ++ items_from (kept (s ∷ ss)) names)
    (pairs ++ filter_map pairs_at (kept ss)) (pairs ++ filter_map pairs_at (kept (s ∷ ss)))
    (due-later past all before s ss h.footer h.proof (code_by kind.Comment before s h))
    (onto items (comment_of s) (items_from (kept ss) names) (items_from (kept (s ∷ ss)) names)
    (ap (λ (ts : List Statement). items_from ts names) (kept-more s ss h.footer) ∙ items-none names s (kept ss) true h.step h.comment))
    (ap (λ (ts : List Statement). pairs ++ filter_map pairs_at ts) (kept-more s ss h.footer) ∙ ap (λ (qs : List PairLine). pairs ++ qs) (pairs-none s (kept ss) h.distinct))
    (rest (s ∷ before) names (items ++ comment_of s ∷ []) pairs None (same-kept s before names h.step same))

-- a statement with a code, or none
code-claim : (past : ℕ) (all : List Line) (before : List Statement) (r : Reading) (l : Line) (ls more : List Line) (o : Option ℕ)
    (read : Result Reading Fault)
    → let s =
    statement l more in
    let ss = statements_where false ls in
    l.number < past → Rising (suc l.number) past ls → Placed all ls → is_footer s ≡ false → is_proof s ≡ false → first_code statement_rules before s ≡ o
    → (o ≡ None → Claim past all before r read s ss) → Claim past all before r (go_on (option_map (λ code. fault l.number code) o) false r read) s ss
code-claim past all before r l ls more None read lt h p f q e next = next refl
code-claim past all before r l ls more (Some c) read lt h p f q e next = stops past l.number c all before (statement l more) ls false refl lt h p f q e

distinct-claim : (past : ℕ) (all : List Line) (before : List Statement) (names : List (List ℕ)) (items : List SheetItem) (pairs : List PairLine)
    (l : Line) (ls : List Line)
    → l.number < past → Rising (suc l.number) past ls → Placed all ls → Facts kind.Distinct (statement_at l ls) → Same before names → Rest past all ls
    → let r = reading names items pairs None in
    Claim past all before r (go_on (fault_with kind.Distinct r l ls) false r (read_lines past (with_kind kind.Distinct r l ls) ls))
    (statement_at l ls) (statements_where false ls)
distinct-claim past all before names items pairs l ls lt rising p h same rest =
    let s = statement_at l ls in
    let ss = statements_where false ls in
    let r = reading names items pairs None in
    let pair : PairLine = record { line = l.number; names = symbols_of (tokens_in s) } in
    let code = code_by kind.Distinct before s h in
    code-claim past all before r l ls (take_while (λ m. not (begins m)) ls) (distinct_code (symbols_of (tokens_in s)))
    (read_lines past (with_kind kind.Distinct r l ls) ls) lt rising p h.footer h.proof code
    (λ none. agrees-same (read_lines past (with_kind kind.Distinct r l ls) ls) (earlier (faults (s ∷ before) ss) (closing_fault past all ss))
    (earlier (faults before (s ∷ ss)) (closing_fault past all (s ∷ ss)))
    (items ++ items_from (kept ss) names) (items ++ items_from (kept (s ∷ ss)) names)
    ((pairs ++ pair ∷ []) ++ filter_map pairs_at (kept ss)) (pairs ++ filter_map pairs_at (kept (s ∷ ss)))
    (due-later past all before s ss h.footer h.proof (code ∙ none))
    (ap (λ l. items ++ l) (ap (λ (ts : List Statement). items_from ts names) (kept-more s ss h.footer) ∙ items-none names s (kept ss) false h.step h.comment))
    (onto pairs pair (filter_map pairs_at (kept ss)) (filter_map pairs_at (kept (s ∷ ss)))
    (ap (λ (ts : List Statement). filter_map pairs_at ts) (kept-more s ss h.footer) ∙ pairs-some s (kept ss) h.distinct))
    (rest (s ∷ before) names items (pairs ++ pair ∷ []) None (same-kept s before names h.step same)))

step-next : (past : ℕ) (all : List Line) (before : List Statement) (names : List (List ℕ)) (items : List SheetItem) (pairs : List PairLine) (l : Line)
    (ls : List Line) (st : Option StepForm)
    → Facts kind.Step (statement_at l ls) → step_in (statement_at l ls) ≡ st → first_code statement_rules before (statement_at l ls) ≡ None
    → step_code names st ≡ None → Same before names → Rest past all ls
    → let r = reading names items pairs None in Claim past all before r (read_lines past (with_step r l.number st) ls) (statement_at l ls) (statements_where false ls)
step-next past all before names items pairs l ls None h e none code same rest = absurd cc
step-next past all before names items pairs l ls (Some f) h e none code same rest =
    let s = statement_at l ls in
    let ss = statements_where false ls in
    let r = reading names items pairs None in
    let made = item.Step (step_at l.number names f) in
    agrees-same (read_lines past (with_step r l.number (Some f)) ls) (earlier (faults (s ∷ before) ss) (closing_fault past all ss))
    (earlier (faults before (s ∷ ss)) (closing_fault past all (s ∷ ss)))
    ((items ++ made ∷ []) ++ items_from (kept ss) (names ++ f.name ∷ [])) (items ++ items_from (kept (s ∷ ss)) names)
    (pairs ++ filter_map pairs_at (kept ss)) (pairs ++ filter_map pairs_at (kept (s ∷ ss)))
    (due-later past all before s ss h.footer h.proof none)
    (onto items made (items_from (kept ss) (names ++ f.name ∷ [])) (items_from (kept (s ∷ ss)) names)
    (ap (λ (ts : List Statement). items_from ts names) (kept-more s ss h.footer) ∙ items-some names s (kept ss) f e))
    (ap (λ (qs : List PairLine). pairs ++ qs) (ap (λ (ts : List Statement). filter_map pairs_at ts) (kept-more s ss h.footer) ∙ pairs-none s (kept ss) h.distinct))
    (rest (s ∷ before) (names ++ f.name ∷ []) (items ++ made ∷ []) pairs None (same-more s before names f e same))

step-claim : (past : ℕ) (all : List Line) (before : List Statement) (names : List (List ℕ)) (items : List SheetItem) (pairs : List PairLine)
    (l : Line) (ls : List Line)
    → l.number < past → Rising (suc l.number) past ls → Placed all ls → Facts kind.Step (statement_at l ls) → Same before names → Rest past all ls
    → let r = reading names items pairs None in
    Claim past all before r (go_on (fault_with kind.Step r l ls) false r (read_lines past (with_kind kind.Step r l ls) ls)) (statement_at l ls)
    (statements_where false ls)
step-claim past all before names items pairs l ls lt rising p h same rest =
    let s = statement_at l ls in
    let r = reading names items pairs None in
    let st = step_of (tokens_in s) in
    let code : first_code statement_rules before s ≡ step_code names st = code_by kind.Step before s h ∙ step_code-same before names st same in
    code-claim past all before r l ls (take_while (λ m. not (begins m)) ls) (step_code names st) (read_lines past (with_kind kind.Step r l ls) ls) lt rising p h.footer h.proof code
    (λ none. step-next past all before names items pairs l ls st h h.step (code ∙ none) none same rest)

-- ---- the footer

faults-from-line : (past : ℕ) (before : List Statement) (l : Line) (ls more : List Line) → Rising (suc l.number) past ls
    → IsFrom l.number (faults before (statement l more ∷ statements_where false ls))
faults-from-line past before l ls more h =
    or_from l.number l.number (first_code statement_rules before (statement l more)) (faults (statement l more ∷ before) (statements_where false ls))
    (omega arith) (faults_from l.number past false (statement l more ∷ before) ls (rising-weaker l.number (suc l.number) past ls (omega arith) h))

closing-foot : (past : ℕ) (all : List Line) (l : Line) (ls more : List Line) (ss : List Statement) → is_footer (statement l more) ≡ true
    → lines_from l.number all ≡ l ∷ ls → closing_fault past all (statement l more ∷ ss) ≡ past_footer (l ∷ ls)
closing-foot past all l ls more ss f e = rw (f, e) refl

past-here : (l : Line) (ls : List Line) → nat_lt 1 (length (tokens l)) ≡ true → past_footer (l ∷ ls) ≡ Some (fault l.number 43)
past-here l [] e = cond_then (nat_lt 1 (length (tokens l))) (Some (fault l.number 43)) None e
past-here l (m ∷ ms) e = cond_then (nat_lt 1 (length (tokens l))) (Some (fault l.number 43)) (Some (fault m.number 43)) e

past-later : (l : Line) (ls : List Line) → nat_lt 1 (length (tokens l)) ≡ false → past_footer (l ∷ ls) ≡ behind_footer ls
past-later l [] e = cond_else (nat_lt 1 (length (tokens l))) (Some (fault l.number 43)) None e
past-later l (m ∷ ms) e = cond_else (nat_lt 1 (length (tokens l))) (Some (fault l.number 43)) (Some (fault m.number 43)) e

behind-from : (n past : ℕ) (ls : List Line) → Rising n past ls → IsFrom n (behind_footer ls)
behind-from n past [] h = tt
behind-from n past (m ∷ ms) h = h.0

-- where no rule holds at the footer, a line behind it is the first fault
behind-first : (past : ℕ) (before : List Statement) (ls : List Line) (n : ℕ) → Rising n past ls → earlier (faults before (statements_where false ls)) (behind_footer ls) ≡ behind_footer ls
behind-first past before [] n h = refl
behind-first past before (m ∷ ms) n h =
    earlier-43 m.number (faults before (statements_where false (m ∷ ms))) (faults_from m.number past false before (m ∷ ms) (omega arith, h.1, h.2))
    (faults_late before (statements_where false (m ∷ ms)))

footer-due : (past : ℕ) (all : List Line) (before : List Statement) (names : List (List ℕ)) (l : Line) (ls more : List Line)
    → Rising (suc l.number) past ls → lines_from l.number all ≡ l ∷ ls → Facts kind.Footer (statement l more) → Same before names
    → earlier (faults before (statement l more ∷ statements_where false ls)) (closing_fault past all (statement l more ∷ statements_where false ls)) ≡ footer_fault names l ls
footer-due past all before names l ls more h e f same =
    let s = statement l more in
    let ss = statements_where false ls in
    let test = nat_lt 1 (length (tokens l)) in
    let code : first_code statement_rules before s ≡ cond (contains names (codes "qed")) None (Some 47) =
    code_by kind.Footer before s f ∙ ap (λ (b : Bool). cond b None (Some 47)) (same.same (codes "qed")) in
    let start : earlier (faults before (s ∷ ss)) (closing_fault past all (s ∷ ss)) ≡ earlier (faults before (s ∷ ss)) (past_footer (l ∷ ls)) =
    ap (λ (o : Option Fault). earlier (faults before (s ∷ ss)) o) (closing-foot past all l ls more ss f.footer e) in
    let answer = cond (contains names (codes "qed")) (behind_footer ls) (Some (fault l.number 47)) in
    elim (cases_Bool test) [
      | inl t ↦
          start ∙ ap (λ (o : Option Fault). earlier (faults before (s ∷ ss)) o) (past-here l ls t)
          ∙ earlier-43 l.number (faults before (s ∷ ss)) (faults-from-line past before l ls more h) (faults_late before (s ∷ ss))
          ∙ sym (cond_then test (Some (fault l.number 43)) answer t)
      | inr t ↦
          let behind : earlier (faults before (s ∷ ss)) (closing_fault past all (s ∷ ss)) ≡ earlier (faults before (s ∷ ss)) (behind_footer ls) =
          start ∙ ap (λ (o : Option Fault). earlier (faults before (s ∷ ss)) o) (past-later l ls t) in
          elim (cases_Bool (contains names (codes "qed"))) [
            | inl q ↦
                behind ∙ ap (λ (o : Option Fault). earlier o (behind_footer ls)) (faults-later before s ss (code ∙ cond_then (contains names (codes "qed")) None (Some 47) q))
                ∙ behind-first past (s ∷ before) ls (suc l.number) h
                ∙ sym (cond_else test (Some (fault l.number 43)) answer t ∙ cond_then (contains names (codes "qed")) (behind_footer ls) (Some (fault l.number 47)) q)
            | inr q ↦
                behind ∙ ap (λ (o : Option Fault). earlier o (behind_footer ls)) (faults-here before s ss 47 (code ∙ cond_else (contains names (codes "qed")) None (Some 47) q))
                ∙ earlier-first l.number 47 (behind_footer ls) (behind-from (suc l.number) past ls h)
                ∙ sym (cond_else test (Some (fault l.number 43)) answer t ∙ cond_else (contains names (codes "qed")) (behind_footer ls) (Some (fault l.number 47)) q)
          ]
    ]

foot-agrees : (o : Option Fault) (r : Reading) (read : Result Reading Fault) (first : Option Fault) (is : List SheetItem) (ps : List PairLine)
    → first ≡ o → is ≡ r.items → ps ≡ r.pairs → Agrees (go_on o true r read) first is ps
foot-agrees None r read first is ps e d q = (e, sym d, sym q)
foot-agrees (Some f) r read first is ps e d q = e

footer-claim : (past : ℕ) (all : List Line) (before : List Statement) (names : List (List ℕ)) (items : List SheetItem) (pairs : List PairLine)
    (l : Line) (ls : List Line) (read : Result Reading Fault)
    → Rising (suc l.number) past ls → lines_from l.number all ≡ l ∷ ls → Facts kind.Footer (statement_at l ls) → Same before names
    → let r = reading names items pairs None in Claim past all before r (go_on (fault_with kind.Footer r l ls) true r read) (statement_at l ls) (statements_where false ls)
footer-claim past all before names items pairs l ls read rising e h same =
    let s = statement_at l ls in
    let ss = statements_where false ls in
    let r = reading names items pairs None in
    foot-agrees (footer_fault names l ls) r read (earlier (faults before (s ∷ ss)) (closing_fault past all (s ∷ ss)))
    (items ++ items_from (kept (s ∷ ss)) names) (pairs ++ filter_map pairs_at (kept (s ∷ ss)))
    (footer-due past all before names l ls (take_while (λ m. not (begins m)) ls) rising e h same)
    (ap (λ (ts : List Statement). items ++ items_from ts names) (kept-foot s ss h.footer) ∙ append-nil items)
    (ap (λ (ts : List Statement). pairs ++ filter_map pairs_at ts) (kept-foot s ss h.footer) ∙ append-nil pairs)

-- ---- a proof

-- what closes the sheet at a proof that begins here
proof-closing : (past : ℕ) (all : List Line) (l : Line) (ls : List Line) (ss : List Statement) → Facts kind.Proof (statement l []) → lines_from l.number all ≡ l ∷ ls
    → closing_fault past all (statement l [] ∷ ss) ≡ cond (not (ends_proof l || list_any ends_proof ls)) (Some (fault l.number 48)) (closing_fault past all ss)
proof-closing past all l ls ss h e =
    let p = h.proof in let f = h.footer in
    rw (f, p, e) refl

unless : {X : Type 0} (b : Bool) (x y : X) → cond (not b) x y ≡ cond b y x
unless true x y = refl
unless false x y = refl

proof-claim : (past : ℕ) (all : List Line) (before : List Statement) (names : List (List ℕ)) (items : List SheetItem) (pairs : List PairLine)
    (l : Line) (ls : List Line)
    → lines_from l.number all ≡ l ∷ ls → Facts kind.Proof (statement l []) → Same before names → Rest past all ls
    → let r = reading names items pairs None in Claim past all before r (read_lines past (with_kind kind.Proof r l ls) ls) (statement l []) (statements_where (not (ends_proof l)) ls)
proof-claim past all before names items pairs l ls place h same rest =
    let s = statement l [] in
    let r = reading names items pairs None in
    let Q : Bool → Option ℕ → Type 0 =
    λ b proof.
    (closing_fault past all (s ∷ statements_where (not b) ls)
    ≡ cond (not (b || list_any ends_proof ls)) (Some (fault l.number 48)) (closing_fault past all (statements_where (not b) ls)))
    → Claim past all before r (read_lines past (reading names items pairs proof) ls) s (statements_where (not b) ls) in
    let none = code_by kind.Proof before s h in
    let same' = same-kept s before names h.step same in
    let wanted : Q (ends_proof l) (proof_from l) = elim (ends_proof l) as (λ b. Q b (cond b None (Some l.number))) [
      | true ↦ λ closing.
          let ss = statements_where false ls in
          agrees-same (read_lines past (reading names items pairs None) ls) (earlier (faults (s ∷ before) ss) (closing_fault past all ss))
          (earlier (faults before (s ∷ ss)) (closing_fault past all (s ∷ ss)))
          (items ++ items_from (kept ss) names) (items ++ items_from (kept (s ∷ ss)) names) (pairs ++ filter_map pairs_at (kept ss)) (pairs ++ filter_map pairs_at (kept (s ∷ ss)))
          (ap (λ (o : Option Fault). earlier o (closing_fault past all (s ∷ ss))) (faults-later before s ss none) ∙ ap (λ (o : Option Fault). earlier (faults (s ∷ before) ss) o) closing)
          (ap (λ l. items ++ l) (ap (λ (ts : List Statement). items_from ts names) (kept-more s ss h.footer) ∙ items-none names s (kept ss) false h.step h.comment))
          (ap (λ (qs : List PairLine). pairs ++ qs) (ap (λ (ts : List Statement). filter_map pairs_at ts) (kept-more s ss h.footer) ∙ pairs-none s (kept ss) h.distinct))
          (rest (s ∷ before) names items pairs None same')
      | false ↦ λ closing.
          let ss = statements_where true ls in
          agrees-same (read_lines past (reading names items pairs (Some l.number)) ls)
          (earlier (faults (s ∷ before) ss) (cond (list_any ends_proof ls) (closing_fault past all ss) (Some (fault l.number 48))))
          (earlier (faults before (s ∷ ss)) (closing_fault past all (s ∷ ss)))
          (items ++ items_from (kept ss) names) (items ++ items_from (kept (s ∷ ss)) names) (pairs ++ filter_map pairs_at (kept ss)) (pairs ++ filter_map pairs_at (kept (s ∷ ss)))
          (ap (λ (o : Option Fault). earlier o (closing_fault past all (s ∷ ss))) (faults-later before s ss none)
          ∙ ap (λ (o : Option Fault). earlier (faults (s ∷ before) ss) o)
          (closing ∙ unless (list_any ends_proof ls) (Some (fault l.number 48)) (closing_fault past all ss)))
          (ap (λ l. items ++ l) (ap (λ (ts : List Statement). items_from ts names) (kept-more s ss h.footer) ∙ items-none names s (kept ss) false h.step h.comment))
          (ap (λ (qs : List PairLine). pairs ++ qs) (ap (λ (ts : List Statement). filter_map pairs_at ts) (kept-more s ss h.footer) ∙ pairs-none s (kept ss) h.distinct))
          (rest (s ∷ before) names items pairs (Some l.number) same')
    ] in
    wanted (proof-closing past all l ls (statements_where (not (ends_proof l)) ls) h place)

-- ---- a line where no proof is open

abbrev LineClaim : ℕ → List Line → List Statement → LineKind → Reading → Line → List Line → Type 0
LineClaim past all before k r l ls =
    Agrees (go_on (fault_with k r l ls) (is_footer_kind k) r (read_lines past (with_kind k r l ls) ls)) (due past all before None (l ∷ ls))
    (r.items ++ items_from (kept (statements_where false (l ∷ ls))) r.names)
    (r.pairs ++ filter_map pairs_at (kept (statements_where false (l ∷ ls))))

begun_statements : (l : Line) (ls : List Line) → opens_proof l ≡ false → begins l ≡ true → statements_where false (l ∷ ls) ≡ statement_at l ls ∷ statements_where false ls
begun_statements l ls o b =
    cond_else (opens_proof l) (statement l [] ∷ statements_where (not (ends_proof l)) ls)
    (cond (begins l) (statement_at l ls ∷ statements_where false ls) (statements_where false ls)) o
    ∙ cond_then (begins l) (statement_at l ls ∷ statements_where false ls) (statements_where false ls) b

proof_statements : (l : Line) (ls : List Line) → opens_proof l ≡ true → statements_where false (l ∷ ls) ≡ statement l [] ∷ statements_where (not (ends_proof l)) ls
proof_statements l ls o =
    cond_then (opens_proof l) (statement l [] ∷ statements_where (not (ends_proof l)) ls)
    (cond (begins l) (statement_at l ls ∷ statements_where false ls) (statements_where false ls)) o

from-claim : (past : ℕ) (all : List Line) (before : List Statement) (r : Reading) (read : Result Reading Fault) (l : Line) (ls : List Line)
    (s : Statement) (ss : List Statement)
    → statements_where false (l ∷ ls) ≡ s ∷ ss → Claim past all before r read s ss
    → Agrees read (due past all before None (l ∷ ls)) (r.items ++ items_from (kept (statements_where false (l ∷ ls))) r.names)
    (r.pairs ++ filter_map pairs_at (kept (statements_where false (l ∷ ls))))
from-claim past all before r read l ls s ss e h =
    subst
    (λ (ts : List Statement). Agrees read (earlier (faults before ts) (closing_fault past all ts)) (r.items ++ items_from (kept ts) r.names)
    (r.pairs ++ filter_map pairs_at (kept ts)))
    (sym e) h

begun-line : (past : ℕ) (all : List Line) (before : List Statement) (names : List (List ℕ)) (items : List SheetItem) (pairs : List PairLine)
    (l : Line) (ls : List Line) (k : LineKind)
    → begins l ≡ true → l.number < past → Rising (suc l.number) past ls → Placed all (l ∷ ls) → Facts k (statement_at l ls) → Facts k (statement l [])
    → Same before names → Rest past all ls
    → LineClaim past all before k (reading names items pairs None) l ls
begun-line past all before names items pairs l ls kind.Indented b lt rising p h g same rest = let e = h.inked in absurd cc
begun-line past all before names items pairs l ls kind.Comment b lt rising p h g same rest =
    let r = reading names items pairs None in
    from-claim past all before r (read_lines past (with_kind kind.Comment r l ls) ls) l ls (statement_at l ls) (statements_where false ls)
    (begun_statements l ls h.opens b) (comment-claim past all before names items pairs l ls h same rest)
begun-line past all before names items pairs l ls kind.Distinct b lt rising p h g same rest =
    let r = reading names items pairs None in
    from-claim past all before r (go_on (fault_with kind.Distinct r l ls) false r (read_lines past (with_kind kind.Distinct r l ls) ls)) l ls
    (statement_at l ls) (statements_where false ls) (begun_statements l ls h.opens b)
    (distinct-claim past all before names items pairs l ls lt rising p.1 h same rest)
begun-line past all before names items pairs l ls kind.Proof b lt rising p h g same rest =
    let r = reading names items pairs None in
    from-claim past all before r (read_lines past (with_kind kind.Proof r l ls) ls) l ls (statement l []) (statements_where (not (ends_proof l)) ls)
    (proof_statements l ls h.opens) (proof-claim past all before names items pairs l ls p.0 g same rest)
begun-line past all before names items pairs l ls kind.Footer b lt rising p h g same rest =
    let r = reading names items pairs None in
    from-claim past all before r (go_on (fault_with kind.Footer r l ls) true r (read_lines past r ls)) l ls (statement_at l ls)
    (statements_where false ls) (begun_statements l ls h.opens b)
    (footer-claim past all before names items pairs l ls (read_lines past r ls) rising p.0 h same)
begun-line past all before names items pairs l ls kind.Step b lt rising p h g same rest =
    let r = reading names items pairs None in
    from-claim past all before r (go_on (fault_with kind.Step r l ls) false r (read_lines past (with_kind kind.Step r l ls) ls)) l ls
    (statement_at l ls) (statements_where false ls) (begun_statements l ls h.opens b)
    (step-claim past all before names items pairs l ls lt rising p.1 h same rest)

-- a line that belongs to the statement before it
indented_statements : (l : Line) (ls : List Line) → begins l ≡ false → statements_where false (l ∷ ls) ≡ statements_where false ls
indented_statements l ls b = rw b refl

indented-line : (past : ℕ) (all : List Line) (before : List Statement) (names : List (List ℕ)) (items : List SheetItem) (pairs : List PairLine)
    (l : Line) (ls : List Line)
    → begins l ≡ false → Right past all before (reading names items pairs None) ls
    → LineClaim past all before kind.Indented (reading names items pairs None) l ls
indented-line past all before names items pairs l ls b h =
    let r = reading names items pairs None in
    subst
    (λ (ts : List Statement). Agrees (read_lines past r ls) (earlier (faults before ts) (closing_fault past all ts))
    (items ++ items_from (kept ts) names) (pairs ++ filter_map pairs_at (kept ts)))
    (sym (indented_statements l ls b)) h

open-line : (past : ℕ) (all : List Line) (before : List Statement) (names : List (List ℕ)) (items : List SheetItem) (pairs : List PairLine) (l : Line)
    (ls : List Line)
    → l.number < past → Rising (suc l.number) past ls → Placed all (l ∷ ls) → Same before names → Rest past all ls
    → LineClaim past all before (kind_of l) (reading names items pairs None) l ls
open-line past all before names items pairs l ls lt rising p same rest =
    let r = reading names items pairs None in
    elim (cases_Bool (begins l)) [
      | inl b ↦ begun-line past all before names items pairs l ls (kind_of l) b lt rising p (facts l (take_while (λ m. not (begins m)) ls) b) (facts l [] b) same rest
      | inr b ↦
          let k : kind_of l ≡ kind.Indented = rw b refl in
          subst (λ (k : LineKind). LineClaim past all before k r l ls) (sym k) (indented-line past all before names items pairs l ls b (rest before names items pairs None same))
    ]

-- ---- from line to line

-- a line of a proof
proof-line : (past n : ℕ) (all : List Line) (before : List Statement) (names : List (List ℕ)) (items : List SheetItem) (pairs : List PairLine)
    (l : Line) (ls : List Line)
    → Same before names → Rest past all ls → Right past all before (reading names items pairs (Some n)) (l ∷ ls)
proof-line past n all before names items pairs l ls same rest =
    elim (ends_proof l) as
    (λ b. Agrees (read_lines past (reading names items pairs (cond b None (Some n))) ls)
    (earlier (faults before (statements_where (not b) ls))
    (cond (b || list_any ends_proof ls) (closing_fault past all (statements_where (not b) ls)) (Some (fault n 48))))
    (items ++ items_from (kept (statements_where (not b) ls)) names) (pairs ++ filter_map pairs_at (kept (statements_where (not b) ls)))) [
      | true ↦ rest before names items pairs None same
      | false ↦ rest before names items pairs (Some n) same
    ]

pub right : (n past : ℕ) (all : List Line) (before : List Statement) (names : List (List ℕ)) (items : List SheetItem) (pairs : List PairLine)
    (proof : Option ℕ) (ls : List Line)
    → Rising n past ls → Placed all ls → Same before names → Right past all before (reading names items pairs proof) ls
right n past all before names items pairs None [] rising p same = refl
right n past all before names items pairs (Some m) [] rising p same = refl
right n past all before names items pairs None (l ∷ ls) rising p same =
    open-line past all before names items pairs l ls rising.1 rising.2 p same
    (λ b ns is ps o s. right (suc l.number) past all b ns is ps o ls rising.2 p.1 s)
right n past all before names items pairs (Some m) (l ∷ ls) rising p same =
    proof-line past m all before names items pairs l ls same (λ b ns is ps o s. right (suc l.number) past all b ns is ps o ls rising.2 p.1 s)
