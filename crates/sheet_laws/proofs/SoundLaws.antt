-- What holds where no rule holds: the statements of a text without a fault.
use Rattle.std.proofs.Common.{◌≡◌, ℕ, Bool, true, false, cond, not, ◌&&◌, List, [], ◌∷◌, Option, Some, None, option_map, refl, sym, ap, ◌∙◌, inl, inr, is_none}
use Rattle.std.proofs.lemmas.Bool.{cases_Bool}
use Rattle.std.proofs.lemmas.List.Sums.{take_while-cons}
use Rattle.std.specs.Prelude.{take_while}
use Rattle.std.specs.List.{list_any, AllByRecursion}
use Rattle.mm_model.specs.Faults.{Fault, fault, or_else, earlier, first_code, first_fault, comes_first}
use Rattle.sheet_text.specs.Lines.{Line}
use Rattle.sheet_text.specs.Forms.{header_of}
use Rattle.sheet_text.specs.SheetStatements.{Statement, line_of, tokens_in, is_footer, is_proof, ends_proof}
use Rattle.sheet_text.specs.TextFaults.{bad_step, name_twice, hyp_unknown, qed_place, bad_distinct, statement_rules, lines_from, closing_fault, statement_fault}
use Rattle.sheet_laws.proofs.Tests.{cond_else}
use Rattle.sheet_laws.proofs.RuleLaws.{IsSound, Passes}

rule_false : (b : Bool) (code : ℕ) (rule : List Statement → Statement → Bool) (o : Option (ℕ × (List Statement → Statement → Bool)))
    → option_map (λ (q : ℕ × (List Statement → Statement → Bool)). q.0) (cond b (Some (code, rule)) o) ≡ None
    → (b ≡ false) × (option_map (λ (q : ℕ × (List Statement → Statement → Bool)). q.0) o ≡ None)
rule_false true code rule o e = absurd (cc)
rule_false false code rule o e = (refl, e)

sound_one : (before : List Statement) (s : Statement) → first_code statement_rules before s ≡ None → IsSound before s
sound_one before s e =
    let one = rule_false (bad_step before s) 44 bad_step _ e in
    let two = rule_false (name_twice before s) 45 name_twice _ one.1 in
    let three = rule_false (hyp_unknown before s) 46 hyp_unknown _ two.1 in
    let four = rule_false (qed_place before s) 47 qed_place _ three.1 in
    let five = rule_false (bad_distinct before s) 49 bad_distinct _ four.1 in
    record { form = one.0; fresh = two.0; known = three.0; qed = four.0; distinct = five.0 }

parts_of : (o : Option ℕ) (n : ℕ) (p : Option Fault) → or_else (option_map (λ (code : ℕ). fault n code) o) p ≡ None → (o ≡ None) × (p ≡ None)
parts_of None n p e = (refl, e)
parts_of (Some c) n p e = absurd (cc)

-- no rule holds of any of them
abbrev pub AreSound : List Statement → List Statement → Type 0
AreSound before [] = Unit {0}
AreSound before (s ∷ ss) = IsSound before s × AreSound (s ∷ before) ss

pub are_sound : (before ss : List Statement) → Passes before ss → AreSound before ss
are_sound before [] e = tt
are_sound before (s ∷ ss) e =
    let p = parts_of (first_code statement_rules before s) (line_of s) (first_fault (λ b t. line_of t) statement_rules (s ∷ before) ss) e in
    (sound_one before s p.0, are_sound (s ∷ before) ss p.1)

-- ---- the statements before the footer

abbrev pub before_footer : List Statement → List Statement
before_footer ss = take_while (λ t. not (is_footer t)) ss

pub no_more : (s : Statement) (ss : List Statement) → is_footer s ≡ true → before_footer (s ∷ ss) ≡ []
no_more s ss e = take_while-cons (λ t. not (is_footer t)) s ss ∙ ap (λ b. cond (not b) (s ∷ before_footer ss) []) e

pub one_more : (s : Statement) (ss : List Statement) → is_footer s ≡ false → before_footer (s ∷ ss) ≡ s ∷ before_footer ss
one_more s ss e = take_while-cons (λ t. not (is_footer t)) s ss ∙ ap (λ b. cond (not b) (s ∷ before_footer ss) []) e

pub front_sound : (before ss : List Statement) → AreSound before ss → AreSound before (before_footer ss)
front_sound before [] a = tt
front_sound before (s ∷ ss) a =
    elim (cases_Bool (is_footer s)) [
      | inl e ↦ rw (no_more s ss e) tt
      | inr e ↦ rw (one_more s ss e) (a.0, front_sound (s ∷ before) ss a.1)
    ]

pub front_all : (P : Statement → Type 0) (ss : List Statement) → AllByRecursion P ss → AllByRecursion P (before_footer ss)
front_all P [] a = tt
front_all P (s ∷ ss) a =
    elim (cases_Bool (is_footer s)) [
      | inl e ↦ rw (no_more s ss e) tt
      | inr e ↦ rw (one_more s ss e) (a.0, front_all P ss a.1)
    ]

-- ---- a text without a fault

pub or_parts : (f g : Option Fault) → or_else f g ≡ None → (f ≡ None) × (g ≡ None)
or_parts None g e = (refl, e)
or_parts (Some f) g e = absurd (cc)

some_first : (b : Bool) (f g : Fault) → cond b (Some f) (Some g) ≡ None → ⊥
some_first true f g e = cc
some_first false f g e = cc

pub earlier_parts : (f g : Option Fault) → earlier f g ≡ None → (f ≡ None) × (g ≡ None)
earlier_parts None g e = (refl, e)
earlier_parts (Some f) None e = absurd (cc)
earlier_parts (Some f) (Some g) e = absurd (some_first (comes_first f g) f g e)

choice : (b : Bool) (f : Fault) (g : Option Fault) → cond b (Some f) g ≡ None → (b ≡ false) × (g ≡ None)
choice true f g e = absurd (cc)
choice false f g e = (refl, e)

-- the first statement is a header, and no rule holds of the others
pub header_sound : (s : Statement) (ss : List Statement) → statement_fault (s ∷ ss) ≡ None → (is_none (header_of (tokens_in s)) ≡ false) × AreSound [] ss
header_sound s ss e =
    let p = choice (is_none (header_of (tokens_in s))) (fault (line_of s) 41) (first_fault (λ b t. line_of t) statement_rules [] ss) e in
    (p.0, are_sound [] ss p.1)

-- what closes the sheet stands behind a statement that is no footer
pub closes_later : (past : ℕ) (ls : List Line) (s : Statement) (ss : List Statement) → is_footer s ≡ false → closing_fault past ls (s ∷ ss) ≡ None → closing_fault past ls ss ≡ None
closes_later past ls s ss f e =
    (choice (is_proof s && not (list_any ends_proof (lines_from (line_of s) ls))) (fault (line_of s) 48) (closing_fault past ls ss) (sym (cond_else (is_footer s) _ _ f) ∙ e)).1
