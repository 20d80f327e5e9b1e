-- The order of faults along rising lines.
use Rattle.std.proofs.Common.{◌≡◌, ℕ, suc, ◌+◌, ◌<◌, ◌≤◌, Bool, true, false, cond, not, ◌&&◌, eqb, List, [], ◌∷◌, length, Option, None, Some}
use Rattle.std.proofs.Common.{option_map, refl, ◌∙◌, subst, arith, take_while, filter}
use Rattle.std.specs.List.{list_any}
use Rattle.std.specs.Prelude.{nat_lt}
use Rattle.std.proofs.lemmas.Bool.Decides.{nat_tests}
use Rattle.mm_model.specs.Faults.{Fault, fault, comes_first, earlier, or_else, first_code, first_fault}
use Rattle.sheet_text.specs.Lines.{Line, line, lines, begins, tokens, trim_end, is_blank, numbered_from, lines_not_blank, line_past_end}
use Rattle.sheet_text.specs.SheetStatements.{Statement, statement, statements_where, line_of, is_footer, is_proof, opens_proof, ends_proof}
use Rattle.sheet_text.specs.TextFaults.{statement_rules, lines_from, past_footer, closing_fault, bad_step, name_twice, hyp_unknown, qed_place, bad_distinct}
use Rattle.sheet_read.proofs.Basics.{cond_then, cond_else}

-- the numbers rise from this one on, and stay below another
abbrev pub Rising : ℕ → ℕ → List Line → Type 0
Rising from past [] = Unit {0}
Rising from past (l ∷ ls) = (from ≤ l.number) × (l.number < past) × Rising (suc l.number) past ls

pub rising-weaker : (from n past : ℕ) (ls : List Line) → from ≤ n → Rising n past ls → Rising from past ls
rising-weaker from n past [] le h = tt
rising-weaker from n past (l ∷ ls) le h = let first = h.0 in (omega arith, h.1, h.2)

-- the lines from each one on are found by its number
abbrev pub Placed : List Line → List Line → Type 0
Placed all [] = Unit {0}
Placed all (l ∷ ls) = (lines_from l.number all ≡ l ∷ ls) × Placed all ls

-- ---- a fault at a place, or later

abbrev pub IsFrom : ℕ → Option Fault → Type 0
IsFrom n None = Unit {0}
IsFrom n (Some f) = n ≤ f.place

-- the code is 44 or more
abbrev pub IsLate : Option Fault → Type 0
IsLate None = Unit {0}
IsLate (Some f) = 43 < f.code

pub from-weaker : (n m : ℕ) (o : Option Fault) → n ≤ m → IsFrom m o → IsFrom n o
from-weaker n m None le h = tt
from-weaker n m (Some f) le h = omega arith

first_earlier : (n c : ℕ) (f : Fault) → n < f.place → comes_first (fault n c) f ≡ true
first_earlier n c f lt = grind (arith, nat_tests)

second_earlier : (n c : ℕ) (f : Fault) → n < f.place → comes_first f (fault n c) ≡ false
second_earlier n c f lt = grind (arith, nat_tests)

-- a fault at a line, and another at a later one
pub earlier-first : (n c : ℕ) (o : Option Fault) → IsFrom (suc n) o → earlier (Some (fault n c)) o ≡ Some (fault n c)
earlier-first n c None h = refl
earlier-first n c (Some f) h = cond_then (comes_first (fault n c) f) (Some (fault n c)) (Some f) (first_earlier n c f (omega arith))

pub earlier-second : (n c : ℕ) (o : Option Fault) → IsFrom (suc n) o → earlier o (Some (fault n c)) ≡ Some (fault n c)
earlier-second n c None h = refl
earlier-second n c (Some f) h = cond_else (comes_first f (fault n c)) (Some f) (Some (fault n c)) (second_earlier n c f (omega arith))

later_code : (n : ℕ) (f : Fault) → n ≤ f.place → 43 < f.code → comes_first f (fault n 43) ≡ false
later_code n f le lt = grind (arith, nat_tests)

-- 43 goes before the faults of statements at its line
pub earlier-43 : (n : ℕ) (o : Option Fault) → IsFrom n o → IsLate o → earlier o (Some (fault n 43)) ≡ Some (fault n 43)
earlier-43 n None h l = refl
earlier-43 n (Some f) h l = cond_else (comes_first f (fault n 43)) (Some f) (Some (fault n 43)) (later_code n f h l)

pub earlier-none : (o : Option Fault) → earlier o None ≡ o
earlier-none None = refl
earlier-none (Some f) = refl

-- ---- the faults of the statements among lines

abbrev place : List Statement → Statement → ℕ
place before s = line_of s

rule_code : (n : ℕ) (a b c d e : Bool) (p q r s t : List Statement → Statement → Bool)
    → IsLate
    (option_map (λ code. fault n code)
    (option_map (λ (x : ℕ × (List Statement → Statement → Bool)). x.0)
    (cond a (Some (44, p)) (cond b (Some (45, q)) (cond c (Some (46, r)) (cond d (Some (47, s)) (cond e (Some (49, t)) None)))))))
rule_code n true b c d e p q r s t = omega arith
rule_code n false true c d e p q r s t = omega arith
rule_code n false false true d e p q r s t = omega arith
rule_code n false false false true e p q r s t = omega arith
rule_code n false false false false true p q r s t = omega arith
rule_code n false false false false false p q r s t = tt

pub code_late : (n : ℕ) (before : List Statement) (s : Statement) → IsLate (option_map (λ code. fault n code) (first_code statement_rules before s))
code_late n before s = rule_code n (bad_step before s) (name_twice before s) (hyp_unknown before s) (qed_place before s) (bad_distinct before s) bad_step name_twice hyp_unknown qed_place bad_distinct

or_late : (o p : Option Fault) → IsLate o → IsLate p → IsLate (or_else o p)
or_late None p h k = k
or_late (Some f) p h k = h

pub or_from : (n m : ℕ) (o : Option ℕ) (p : Option Fault) → n ≤ m → IsFrom n p → IsFrom n (or_else (option_map (λ code. fault m code) o) p)
or_from n m None p le h = h
or_from n m (Some c) p le h = le

pub faults_late : (before ss : List Statement) → IsLate (first_fault (λ b s. line_of s) statement_rules before ss)
faults_late before [] = tt
faults_late before (s ∷ ss) =
    or_late (option_map (λ code. fault (line_of s) code) (first_code statement_rules before s))
    (first_fault (λ b s. line_of s) statement_rules (s ∷ before) ss) (code_late (line_of s) before s) (faults_late (s ∷ before) ss)

abbrev faults : List Statement → List Statement → Option Fault
faults before ss = first_fault (λ b s. line_of s) statement_rules before ss

pub faults_from : (n past : ℕ) (in_proof : Bool) (before : List Statement) (ls : List Line) → Rising n past ls → IsFrom n (faults before (statements_where in_proof ls))
faults_from n past true before [] h = tt
faults_from n past false before [] h = tt
faults_from n past true before (l ∷ ls) h = let first = h.0 in faults_from n past (not (ends_proof l)) before ls (rising-weaker n (suc l.number) past ls (omega arith) h.2)
faults_from n past false before (l ∷ ls) h =
    let first = h.0 in
    let later : Rising n past ls = rising-weaker n (suc l.number) past ls (omega arith) h.2 in
    let s = statement l (take_while (λ m. not (begins m)) ls) in
    elim (opens_proof l) as
    (λ t. IsFrom n
    (faults before
    (cond t (statement l [] ∷ statements_where (not (ends_proof l)) ls)
    (cond (begins l) (s ∷ statements_where false ls) (statements_where false ls))))) [
      | true ↦ or_from n l.number (first_code statement_rules before (statement l []))
          (faults (statement l [] ∷ before) (statements_where (not (ends_proof l)) ls)) h.0
          (faults_from n past (not (ends_proof l)) (statement l [] ∷ before) ls later)
      | false ↦ elim (begins l) as (λ t. IsFrom n (faults before (cond t (s ∷ statements_where false ls) (statements_where false ls)))) [
        | true ↦ or_from n l.number (first_code statement_rules before s) (faults (s ∷ before) (statements_where false ls)) h.0 (faults_from n past false (s ∷ before) ls later)
        | false ↦ faults_from n past false before ls later
      ]
    ]

-- ---- what closes the sheet

pub past_footer-from : (n past : ℕ) (l : Line) (ls : List Line) → n ≤ l.number → Rising (suc l.number) past ls → IsFrom n (past_footer (l ∷ ls))
past_footer-from n past l [] le h = elim (nat_lt 1 (length (tokens l))) as (λ t. IsFrom n (cond t (Some (fault l.number 43)) None)) [ true ↦ le | false ↦ tt ]
past_footer-from n past l (m ∷ ms) le h =
    let next = h.0 in
    elim (nat_lt 1 (length (tokens l))) as (λ t. IsFrom n (cond t (Some (fault l.number 43)) (Some (fault m.number 43)))) [ true ↦ le | false ↦ omega arith ]

closing_step : (n past : ℕ) (all : List Line) (s : Statement) (ss : List Statement) → n ≤ line_of s
    → IsFrom n (past_footer (lines_from (line_of s) all)) → IsFrom n (closing_fault past all ss) → IsFrom n (closing_fault past all (s ∷ ss))
closing_step n past all s ss le foot rest =
    let unended = is_proof s && not (list_any ends_proof (lines_from (line_of s) all)) in
    elim (is_footer s) as (λ t. IsFrom n (cond t (past_footer (lines_from (line_of s) all)) (cond unended (Some (fault (line_of s) 48)) (closing_fault past all ss)))) [
      | true ↦ foot
      | false ↦ elim unended as (λ t. IsFrom n (cond t (Some (fault (line_of s) 48)) (closing_fault past all ss))) [ true ↦ le | false ↦ rest ]
    ]

pub closing_from : (n past : ℕ) (in_proof : Bool) (all ls : List Line) → n ≤ past → Rising n past ls → Placed all ls → IsFrom n (closing_fault past all (statements_where in_proof ls))
closing_from n past true all [] le h p = le
closing_from n past false all [] le h p = le
closing_from n past true all (l ∷ ls) le h p = let first = h.0 in closing_from n past (not (ends_proof l)) all ls le (rising-weaker n (suc l.number) past ls (omega arith) h.2) p.1
closing_from n past false all (l ∷ ls) le h p =
    let first = h.0 in
    let later : Rising n past ls = rising-weaker n (suc l.number) past ls (omega arith) h.2 in
    let s = statement l (take_while (λ m. not (begins m)) ls) in
    let foot : IsFrom n (past_footer (lines_from l.number all)) = rw p.0 (past_footer-from n past l ls h.0 h.2) in
    elim (opens_proof l) as
    (λ t. IsFrom n
    (closing_fault past all
    (cond t (statement l [] ∷ statements_where (not (ends_proof l)) ls)
    (cond (begins l) (s ∷ statements_where false ls) (statements_where false ls))))) [
      | true ↦ closing_step n past all (statement l []) (statements_where (not (ends_proof l)) ls) h.0 foot (closing_from n past (not (ends_proof l)) all ls le later p.1)
      | false ↦ elim (begins l) as (λ t. IsFrom n (closing_fault past all (cond t (s ∷ statements_where false ls) (statements_where false ls)))) [
        | true ↦ closing_step n past all s (statements_where false ls) h.0 foot (closing_from n past false all ls le later p.1)
        | false ↦ closing_from n past false all ls le later p.1
      ]
    ]

-- ---- lines that rise are found

elsewhere : (m past : ℕ) (l : Line) (all ls : List Line) → Rising (suc l.number) past ls → Placed all ls → Placed (l ∷ all) ls
elsewhere m past l all [] h p = tt
elsewhere m past l all (k ∷ ks) h p =
    let after = h.0 in
    let differ : eqb l.number k.number ≡ false = grind (arith, nat_tests) in
    (cond_else (eqb l.number k.number) (l ∷ all) (lines_from k.number all) differ ∙ p.0, elsewhere m past l all ks (rising-weaker (suc l.number) (suc k.number) past ks (omega arith) h.2) p.1)

pub rising-placed : (n past : ℕ) (ls : List Line) → Rising n past ls → Placed ls ls
rising-placed n past [] h = tt
rising-placed n past (l ∷ ls) h =
    let same : eqb l.number l.number ≡ true = grind (arith, nat_tests) in
    (cond_then (eqb l.number l.number) (l ∷ ls) (lines_from l.number ls) same, elsewhere n past l ls ls h.2 (rising-placed (suc l.number) past ls h.2))

numbered-rising : (n : ℕ) (ls : List (List ℕ)) → Rising n (n + length ls) (filter (λ l. not (is_blank l)) (numbered_from n ls))
numbered-rising n [] = tt
numbered-rising n (b ∷ bs) =
    let past : suc n + length bs ≡ n + suc (length bs) = omega arith in
    let rest : Rising (suc n) (n + suc (length bs)) (filter (λ l. not (is_blank l)) (numbered_from (suc n) bs)) =
    subst (λ (p : ℕ). Rising (suc n) p (filter (λ l. not (is_blank l)) (numbered_from (suc n) bs))) past (numbered-rising (suc n) bs) in
    elim (is_blank (line n (trim_end b))) as
    (λ t. Rising n (n + suc (length bs))
    (cond (not t) (line n (trim_end b) ∷ filter (λ l. not (is_blank l)) (numbered_from (suc n) bs))
    (filter (λ l. not (is_blank l)) (numbered_from (suc n) bs)))) [
      | true ↦ rising-weaker n (suc n) (n + suc (length bs)) (filter (λ l. not (is_blank l)) (numbered_from (suc n) bs)) (omega arith) rest
      | false ↦ (omega arith, omega arith, rest)
    ]

pub lines-rising : (text : List ℕ) → Rising 1 (line_past_end text) (lines_not_blank text)
lines-rising text =
    let past : 1 + length (lines text) ≡ suc (length (lines text)) = omega arith in
    subst (λ (p : ℕ). Rising 1 p (lines_not_blank text)) past (numbered-rising 1 (lines text))
