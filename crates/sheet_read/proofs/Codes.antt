-- The rule that holds at a statement, by the kind of its first line.
use Rattle.std.proofs.Common.{◌≡◌, ℕ, Bool, true, false, cond, not, ◌||◌, ◌&&◌, List, [], ◌∷◌, ◌++◌, Option, None, Some, option_map, refl, sym, ap, ◌∙◌, codes, filter_map}
use Rattle.std.specs.Prelude.{is_none}
use Rattle.std.specs.Option.{option_map_or}
use Rattle.std.specs.List.{list_any}
use Rattle.std.specs.Str.{bytes_eq}
use Rattle.mm_model.specs.Faults.{first_code}
use Rattle.mm_model.specs.Names.{contains}
use Rattle.sheet_text.specs.SheetStatements.{Statement, tokens_in}
use Rattle.sheet_text.specs.Forms.{StepForm, step_of}
use Rattle.sheet_text.specs.TextFaults.{statement_rules, step_in, names_in, symbols_of, is_bad_distinct, is_qed, bad_step, name_twice, hyp_unknown, qed_place, bad_distinct}
use Rattle.sheet_read.specs.declared.lines.LineKind.{LineKind}
use Rattle.sheet_read.specs.declared.lines.LineKind.TheVariants as kind
use Rattle.sheet_read.specs.Reading.{step_code, distinct_code, is_unknown, is_misplaced}
use Rattle.sheet_read.proofs.KindFacts.{Facts}

-- ---- the names before a statement

-- these names are those of the steps among the statements
pub record Same (before : List Statement) (names : List (List ℕ)) : Type 0 where
  pub same : (x : List ℕ) → contains (names_in before) x ≡ contains names x

pub none-same : Same [] []
none-same = record { same = λ x. refl }

pub names-kept : (s : Statement) (before : List Statement) → step_in s ≡ None → names_in (s ∷ before) ≡ names_in before
names-kept s before e = rw e refl

or_swap : (a b : Bool) → (a || b) ≡ (b || a)
or_swap true true = refl
or_swap true false = refl
or_swap false true = refl
or_swap false false = refl

or_assoc : (a b c : Bool) → ((a || b) || c) ≡ (a || (b || c))
or_assoc true b c = refl
or_assoc false b c = refl

pub contains-end : (names : List (List ℕ)) (n x : List ℕ) → contains (names ++ n ∷ []) x ≡ (contains names x || bytes_eq x n)
contains-end [] n x = or_swap (bytes_eq x n) false
contains-end (m ∷ ms) n x = ap (λ (b : Bool). bytes_eq x m || b) (contains-end ms n x) ∙ sym (or_assoc (bytes_eq x m) (contains ms x) (bytes_eq x n))

pub same-kept : (s : Statement) (before : List Statement) (names : List (List ℕ)) → step_in s ≡ None → Same before names → Same (s ∷ before) names
same-kept s before names e h = record { same = λ x. ap (λ (ns : List (List ℕ)). contains ns x) (names-kept s before e) ∙ h.same x }

pub same-more : (s : Statement) (before : List Statement) (names : List (List ℕ)) (f : StepForm) → step_in s ≡ Some f → Same before names → Same (s ∷ before) (names ++ f.name ∷ [])
same-more s before names f e h = record {
  same = λ x.
      let more : names_in (s ∷ before) ≡ f.name ∷ names_in before = rw e refl in
      ap (λ (ns : List (List ℕ)). contains ns x) more ∙ ap (λ (b : Bool). bytes_eq x f.name || b) (h.same x) ∙ or_swap (bytes_eq x f.name) (contains names x) ∙ sym (contains-end names f.name x);
}

-- ---- the codes

abbrev pub code_for : LineKind → List Statement → Statement → Option ℕ
code_for kind.Distinct before s = distinct_code (symbols_of (tokens_in s))
code_for kind.Step before s = step_code (names_in before) (step_of (tokens_in s))
code_for kind.Footer before s = cond (contains (names_in before) (codes "qed")) None (Some 47)
code_for _ before s = None

abbrev Rule : Type 0
Rule = List Statement → Statement → Bool

code_if : (c : ℕ) (b : Bool) (r : Rule) → option_map (λ (x : ℕ × Rule). x.0) (cond b (Some (c, r)) None) ≡ cond b (Some c) None
code_if c true r = refl
code_if c false r = refl

code_unless : (c : ℕ) (b : Bool) (r : Rule) → option_map (λ (x : ℕ × Rule). x.0) (cond (not b) (Some (c, r)) None) ≡ cond b None (Some c)
code_unless c true r = refl
code_unless c false r = refl

step_rules : (a b c : Bool) (p q r : Rule)
    → option_map (λ (x : ℕ × Rule). x.0) (cond a (Some (45, p)) (cond b (Some (46, q)) (cond (c || false) (Some (47, r)) None)))
    ≡ cond a (Some 45) (cond b (Some 46) (cond c (Some 47) None))
step_rules true b c p q r = refl
step_rules false true c p q r = refl
step_rules false false true p q r = refl
step_rules false false false p q r = refl

step_table : (names : List (List ℕ)) (st : Option StepForm) (o p q r : Rule)
    → option_map (λ (x : ℕ × Rule). x.0)
    (cond (is_none st && true && true && true) (Some (44, o))
    (cond (option_map_or (λ (f : StepForm). contains names f.name) st false) (Some (45, p))
    (cond (option_map_or (λ (f : StepForm). is_unknown names f.entries) st false) (Some (46, q))
    (cond (option_map_or (λ (f : StepForm). is_misplaced names f) st false || false) (Some (47, r)) None))))
    ≡ step_code names st
step_table names None o p q r = refl
step_table names (Some f) o p q r = step_rules (contains names f.name) (is_unknown names f.entries) (is_misplaced names f) p q r

pub code_by : (k : LineKind) (before : List Statement) (s : Statement) → Facts k s → first_code statement_rules before s ≡ code_for k before s
code_by kind.Indented before s h = let e = h.inked in absurd cc
code_by kind.Comment before s h = let c = h.comment in let d = h.distinct in let f = h.footer in rw (c, f, d) refl
code_by kind.Proof before s h = let c = h.comment in let d = h.distinct in let p = h.proof in let f = h.footer in let st = h.step in rw (st, c, d, p, f) refl
code_by kind.Distinct before s h = let c = h.comment in let d = h.distinct in let f = h.footer in let st = h.step in
    rw (st, c, d, f) (code_if 49 (is_bad_distinct (symbols_of (tokens_in s))) bad_distinct)
code_by kind.Footer before s h = let c = h.comment in let d = h.distinct in let p = h.proof in let f = h.footer in let st = h.step in
    rw (st, c, d, p, f) (code_unless 47 (contains (names_in before) (codes "qed")) qed_place)
code_by kind.Step before s h =
    let c = h.comment in let d = h.distinct in let p = h.proof in let f = h.footer in let st = h.step in
    rw (st, c, d, p, f) (step_table (names_in before) (step_of (tokens_in s)) bad_step name_twice hyp_unknown qed_place)

-- ---- the same codes by the names as they were read

any_same : (p q : List ℕ → Bool) (xs : List (List ℕ)) → ((x : List ℕ) → p x ≡ q x) → list_any p xs ≡ list_any q xs
any_same p q [] h = refl
any_same p q (x ∷ xs) h = rw (h x) (ap (λ (b : Bool). q x || b) (any_same p q xs h))

pub step_code-same : (before : List Statement) (names : List (List ℕ)) (st : Option StepForm) → Same before names → step_code (names_in before) st ≡ step_code names st
step_code-same before names None h = refl
step_code-same before names (Some f) h =
    let twice : contains (names_in before) f.name ≡ contains names f.name = h.same f.name in
    let unknown : is_unknown (names_in before) f.entries ≡ is_unknown names f.entries =
    any_same (λ e. not (contains (names_in before) e)) (λ e. not (contains names e)) (filter_map (λ (e : Option (List ℕ)). e) f.entries)
    (λ x. ap not (h.same x)) in
    let placed : is_misplaced (names_in before) f ≡ is_misplaced names f = ap (λ (b : Bool). b || (is_qed f && f.hyp)) (h.same (codes "qed")) in
    ap (λ (b : Bool). cond b (Some 45) (cond (is_unknown (names_in before) f.entries) (Some 46) (cond (is_misplaced (names_in before) f) (Some 47) None))) twice
    ∙ ap (λ (b : Bool). cond (contains names f.name) (Some 45) (cond b (Some 46) (cond (is_misplaced (names_in before) f) (Some 47) None))) unknown
    ∙ ap (λ (b : Bool). cond (contains names f.name) (Some 45) (cond (is_unknown names f.entries) (Some 46) (cond b (Some 47) None))) placed
