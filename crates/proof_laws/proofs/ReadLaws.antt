-- Letters without a fault are those of steps, and a text without a fault spells a code.
use Rattle.std.proofs.Common.{◌≡◌, ◌≤◌, ◌<◌, ◌⊎◌, inl, inr, ℕ, suc, ◌+◌, ◌-◌, ◌*◌, Bool, true, false, cond, ◌||◌, ◌&&◌, eqb, leb, ltb, List, [], ◌∷◌}
use Rattle.std.proofs.Common.{◌++◌, length, Option, Some, None, option_map, refl, sym, ap, ◌∙◌, arith, subst, append_assoc}
use Rattle.std.proofs.lemmas.Bool.{cases_Bool}
use Rattle.std.proofs.lemmas.Bool.Decides.{nat_tests}
use Rattle.mm_model.specs.Faults.{Fault, fault, or_else, first_code, first_fault}
use Rattle.proof_model.specs.declared.code.What.{What}
use Rattle.proof_model.specs.declared.code.What.TheVariants as what
use Rattle.proof_model.specs.declared.code.Step.{Step}
use Rattle.proof_model.specs.Codes.{step}
use Rattle.proof_model.specs.ProofCode.{is_last, is_leading, EndsNumber, SpellsNumber, SpellsWhat, SpellsSteps, IsInRange, AreInRange, mark}
use Rattle.proof_model.specs.ProofCode.{digits_before, number_at, marks_before, just_after, bad_letter, number_too_large, mark_at_start, mark_twice}
use Rattle.proof_model.specs.ProofCode.{unended_number, letter_rules, index, label_fault, labels_of, letters_of, is_bracketed, letter_fault}
use Rattle.proof_laws.specs.WrittenCode.{SoundSpells}
use Rattle.proof_laws.proofs.LetterLaws.{cond_then, cond_else, bounds, leading_digit, last_digit, last_not_leading, same_marks, fault_from}

-- ---- the rules that a letter without a fault passes

abbrev Rule : Type 0
Rule = List ℕ → ℕ → Bool

passed_by : (b : Bool) (code : ℕ) (rule : Rule) (o : Option (ℕ × Rule)) → option_map (λ (q : ℕ × Rule). q.0) (cond b (Some (code, rule)) o) ≡ None
    → (b ≡ false) × (option_map (λ (q : ℕ × Rule). q.0) o ≡ None)
passed_by true code rule o e = absurd (cc)
passed_by false code rule o e = (refl, e)

record IsSound (known : ℕ) (before : List ℕ) (b : ℕ) : Type 0 where
  good : bad_letter before b ≡ false
  fits : number_too_large known before b ≡ false
  ended : unended_number before b ≡ false
  not_first : mark_at_start before b ≡ false
  not_twice : mark_twice before b ≡ false

sound : (known : ℕ) (before : List ℕ) (b : ℕ) → first_code (letter_rules known) before b ≡ None → IsSound known before b
sound known before b e =
    let one = passed_by (bad_letter before b) 1 bad_letter _ e in
    let two = passed_by (number_too_large known before b) 2 (number_too_large known) _ one.1 in
    let three = passed_by (unended_number before b) 5 unended_number _ two.1 in
    let four = passed_by (mark_at_start before b) 3 mark_at_start _ three.1 in
    let five = passed_by (mark_twice before b) 4 mark_twice _ four.1 in
    record { good = one.0; fits = two.0; ended = three.0; not_first = four.0; not_twice = five.0 }

parts_by : (o : Option ℕ) (n : ℕ) (p q : Option Fault) → or_else (or_else (option_map (λ (c : ℕ). fault n c) o) p) q ≡ None → (o ≡ None) × (or_else p q ≡ None)
parts_by None n p q e = (refl, e)
parts_by (Some c) n p q e = absurd (cc)

-- a letter without a fault, and none behind it
letter_parts : (known : ℕ) (before : List ℕ) (b : ℕ) (bs : List ℕ) → fault_from known before (b ∷ bs) ≡ None → IsSound known before b × (fault_from known (b ∷ before) bs ≡ None)
letter_parts known before b bs e =
    let p = parts_by (first_code (letter_rules known) before b) (length before) (first_fault index (letter_rules known) (b ∷ before) bs) _ e in
    (sound known before b p.0, p.1)

-- ---- kinds of letters

abbrev OpensStep : ℕ → Type 0
OpensStep b = (is_last b ≡ true) ⊎ ((is_leading b ≡ true) ⊎ (b ≡ 63))

kind : (b : ℕ) (before : List ℕ) → bad_letter before b ≡ false → (b ≡ 90) ⊎ OpensStep b
kind b before e =
    elim (cases_Bool (is_last b)) [
      | inl h ↦ inr (inl h)
      | inr h ↦
          elim (cases_Bool (is_leading b)) [
            | inl k ↦ inr (inr (inl k))
            | inr k ↦
                elim (cases_Bool (eqb b 90)) [
                  | inl z ↦ inl (grind (arith, nat_tests, z))
                  | inr z ↦ inr (inr (inr (grind (arith, nat_tests, e, h, k, z))))
                ]
          ]
    ]

and_false : (a b : Bool) → a ≡ true → (a && b) ≡ false → b ≡ false
and_false true b h e = e
and_false false b h e = absurd (cc)

-- ---- what a number names

record Named (m n marks : ℕ) (letters : List ℕ) : Type 0 where
  names : What
  spelled : SpellsWhat m n letters names
  in_range : IsInRange m n marks names

named : (m n marks k : ℕ) (letters : List ℕ) → SpellsNumber letters k → 0 < k → k ≤ m + n + marks → Named m n marks letters
named m n marks k letters s low high =
    elim (cases_Bool (leb k m)) [
      | inl h ↦
          let le : k ≤ m = grind (arith, nat_tests, h) in
          let number : k ≡ k - 1 + 1 = omega (arith, low) in
          let small : k - 1 < m = omega (arith, low, le) in
          record { names = what.Hyp (k - 1); spelled = subst (SpellsNumber letters) number s; in_range = small }
      | inr h ↦
          let gt : m < k = grind (arith, nat_tests, h) in
          elim (cases_Bool (leb k (m + n))) [
            | inl j ↦
                let le : k ≤ m + n = grind (arith, nat_tests, j) in
                let number : k ≡ m + (k - m - 1) + 1 = omega (arith, gt) in
                let small : k - m - 1 < n = omega (arith, gt, le) in
                record { names = what.Listed (k - m - 1); spelled = subst (SpellsNumber letters) number s; in_range = small }
            | inr j ↦
                let over : m + n < k = grind (arith, nat_tests, j) in
                let number : k ≡ m + n + (k - m - n - 1) + 1 = omega (arith, over) in
                let small : k - m - n - 1 < marks = omega (arith, over, high) in
                record { names = what.Again (k - m - n - 1); spelled = subst (SpellsNumber letters) number s; in_range = small }
          ]
    ]

-- ---- what letters are read as

module _ (m n : ℕ) where
  -- whole steps
  record Whole (marks : ℕ) (bs : List ℕ) : Type 0 where
    steps : List Step
    spelled : SpellsSteps m n bs steps
    in_range : AreInRange m n marks steps

  -- the mark of a step before, where it has one, and whole steps
  record Marked (marks : ℕ) (bs : List ℕ) : Type 0 where
    marked : Bool
    back : List ℕ
    whole : bs ≡ mark marked ++ back
    steps : List Step
    spelled : SpellsSteps m n back steps
    in_range : AreInRange m n (cond marked (suc marks) marks) steps

  -- the end of a number, and what is behind it
  record Ended (marks v : ℕ) (bs : List ℕ) : Type 0 where
    front : List ℕ
    rest : List ℕ
    number : ℕ
    whole : bs ≡ front ++ rest
    ends : EndsNumber v front number
    low : 0 < number
    high : number ≤ m + n + marks
    after : Marked marks rest

  -- a step of these letters, and what is behind it
  one_step : (marks : ℕ) (bs front rest : List ℕ) → bs ≡ front ++ rest → Named m n marks front → Marked marks rest → Whole marks bs
  one_step marks bs front rest whole w r = record {
    steps = step w.names r.marked ∷ r.steps;
    spelled = (
      front ++ mark r.marked,
      r.back,
      whole ∙ ap (λ (ls : List ℕ). front ++ ls) r.whole ∙ sym (append_assoc front (mark r.marked) r.back),
      record { front = front; what = w.spelled; whole = refl },
      r.spelled,
    );
    in_range = (w.in_range, r.in_range);
  }

  number_step : (marks : ℕ) (bs : List ℕ) → Ended marks 0 bs → Whole marks bs
  number_step marks bs r = one_step marks bs r.front r.rest r.whole (named m n marks r.number r.front r.ends r.low r.high) r.after

  unmarked : (marks : ℕ) (bs : List ℕ) → Whole marks bs → Marked marks bs
  unmarked marks bs w = record { marked = false; back = bs; whole = refl; steps = w.steps; spelled = w.spelled; in_range = w.in_range }

  by_last : (before : List ℕ) (b : ℕ) (bs : List ℕ) → is_last b ≡ true → IsSound (m + n) before b → Marked (marks_before before) bs → Ended (marks_before before) (digits_before before) (b ∷ bs)
  by_last before b bs h ok r =
      let range = bounds 65 84 b h in
      let first = range.0 in
      let fits : ltb (m + n + marks_before before) (number_at before b) ≡ false = and_false (is_last b) _ h ok.fits in
      let positive : 0 < 20 * digits_before before + (b - 64) = omega (arith, first) in
      record {
        front = b ∷ [];
        rest = bs;
        number = number_at before b;
        whole = refl;
        ends = (h, refl);
        low = positive;
        high = grind (arith, nat_tests, fits);
        after = r;
      }

  ends_behind : (v b : ℕ) (front : List ℕ) (k : ℕ) → is_leading b ≡ true → EndsNumber (5 * v + (b - 84)) front k → EndsNumber v (b ∷ front) k
  ends_behind v b [] k h e = absurd e
  ends_behind v b (c ∷ cs) k h e = (h, e)

  by_leading : (marks v b : ℕ) (bs : List ℕ) → is_leading b ≡ true → Ended marks (5 * v + (b - 84)) bs → Ended marks v (b ∷ bs)
  by_leading marks v b bs h r = record {
    front = b ∷ r.front;
    rest = r.rest;
    number = r.number;
    whole = ap (λ (ls : List ℕ). b ∷ ls) r.whole;
    ends = ends_behind v b r.front r.number h r.ends;
    low = r.low;
    high = r.high;
    after = r.after;
  }

  -- what these letters are read as, by the letters before: where a step begins, behind a step, and in a number
  record Read (bs : List ℕ) : Type 0 where
    begins : (before : List ℕ) → digits_before before ≡ 0 → (mark_twice before 90 || mark_at_start before 90) ≡ true → fault_from (m + n) before bs ≡ None → Whole (marks_before before) bs
    behind : (before : List ℕ) → digits_before before ≡ 0 → fault_from (m + n) before bs ≡ None → Marked (marks_before before) bs
    inside : (before : List ℕ) → just_after is_leading before ≡ true → fault_from (m + n) before bs ≡ None → Ended (marks_before before) (digits_before before) bs

  never_ended : (before : List ℕ) → just_after is_leading before ≡ true → fault_from (m + n) before [] ≡ None → ⊥
  never_ended before h e =
      let some : Some (fault (length before) 5) ≡ None = sym (cond_then (just_after is_leading before) (Some (fault (length before) 5)) None h) ∙ e in
      cc

  read_none : Read []
  read_none = record {
    begins = λ before h k e. record { steps = []; spelled = refl; in_range = tt };
    behind = λ before h e. record { marked = false; back = []; whole = refl; steps = []; spelled = refl; in_range = tt };
    inside = λ before h e. absurd (never_ended before h e);
  }

  -- behind a last letter
  last_behind : (before : List ℕ) (b : ℕ) (bs : List ℕ) → is_last b ≡ true → Read bs → fault_from (m + n) (b ∷ before) bs ≡ None → Marked (marks_before before) bs
  last_behind before b bs h r e =
      subst (λ (marks : ℕ). Marked marks bs) (same_marks b before (last_digit b h).marks)
      (r.behind (b ∷ before) (cond_else (is_leading b) (5 * digits_before before + (b - 84)) 0 (last_not_leading b h)) e)

  -- behind a leading letter
  leading_inside : (before : List ℕ) (b : ℕ) (bs : List ℕ) → is_leading b ≡ true → Read bs → fault_from (m + n) (b ∷ before) bs ≡ None
      → Ended (marks_before before) (5 * digits_before before + (b - 84)) bs
  leading_inside before b bs h r e =
      subst (λ (v : ℕ). Ended (marks_before before) v bs) (cond_then (is_leading b) (5 * digits_before before + (b - 84)) 0 h)
      (subst (λ (marks : ℕ). Ended marks (digits_before (b ∷ before)) bs) (same_marks b before (leading_digit b h).marks) (r.inside (b ∷ before) h e))

  -- a letter of a number
  digit_read : (before : List ℕ) (b : ℕ) (bs : List ℕ) → (is_last b ≡ true) ⊎ (is_leading b ≡ true) → Read bs → IsSound (m + n) before b → fault_from (m + n) (b ∷ before) bs ≡ None
      → Ended (marks_before before) (digits_before before) (b ∷ bs)
  digit_read before b bs (inl h) r ok e = by_last before b bs h ok (last_behind before b bs h r e)
  digit_read before b bs (inr h) r ok e = by_leading (marks_before before) (digits_before before) b bs h (leading_inside before b bs h r e)

  gap_step : (before : List ℕ) (b : ℕ) (bs : List ℕ) → b ≡ 63 → Read bs → fault_from (m + n) (b ∷ before) bs ≡ None → Whole (marks_before before) (b ∷ bs)
  gap_step before b bs is r e =
      let e' : fault_from (m + n) (63 ∷ before) bs ≡ None = subst (λ (c : ℕ). fault_from (m + n) (c ∷ before) bs ≡ None) is e in
      one_step (marks_before before) (b ∷ bs) (63 ∷ []) bs (ap (λ (c : ℕ). c ∷ bs) is) (record { names = what.Unknown; spelled = refl; in_range = tt }) (r.behind (63 ∷ before) refl e')

  -- a letter that begins a step
  opened : (before : List ℕ) (b : ℕ) (bs : List ℕ) → OpensStep b → digits_before before ≡ 0 → Read bs → IsSound (m + n) before b → fault_from (m + n) (b ∷ before) bs ≡ None
      → Whole (marks_before before) (b ∷ bs)
  opened before b bs (inl h) value r ok e =
      number_step (marks_before before) (b ∷ bs) (subst (λ (v : ℕ). Ended (marks_before before) v (b ∷ bs)) value (digit_read before b bs (inl h) r ok e))
  opened before b bs (inr (inl h)) value r ok e =
      number_step (marks_before before) (b ∷ bs) (subst (λ (v : ℕ). Ended (marks_before before) v (b ∷ bs)) value (digit_read before b bs (inr h) r ok e))
  opened before b bs (inr (inr is)) value r ok e = gap_step before b bs is r e

  no_mark : (before : List ℕ) (b : ℕ) → b ≡ 90 → (mark_twice before 90 || mark_at_start before 90) ≡ true → IsSound (m + n) before b → ⊥
  no_mark before b is marked ok =
      let twice : mark_twice before 90 ≡ false = subst (λ (c : ℕ). mark_twice before c ≡ false) is ok.not_twice in
      let start : mark_at_start before 90 ≡ false = subst (λ (c : ℕ). mark_at_start before c ≡ false) is ok.not_first in
      let both : (false || mark_at_start before 90) ≡ true = ap (λ (t : Bool). t || mark_at_start before 90) (sym twice) ∙ marked in
      let bad : false ≡ true = sym start ∙ both in
      cc

  begins_by : (before : List ℕ) (b : ℕ) (bs : List ℕ) → (b ≡ 90) ⊎ OpensStep b → digits_before before ≡ 0 → (mark_twice before 90 || mark_at_start before 90) ≡ true → Read bs
      → IsSound (m + n) before b → fault_from (m + n) (b ∷ before) bs ≡ None → Whole (marks_before before) (b ∷ bs)
  begins_by before b bs (inl is) value marked r ok e = absurd (no_mark before b is marked ok)
  begins_by before b bs (inr o) value marked r ok e = opened before b bs o value r ok e

  a_mark : (before : List ℕ) (b : ℕ) (bs : List ℕ) → b ≡ 90 → Read bs → fault_from (m + n) (b ∷ before) bs ≡ None → Marked (marks_before before) (b ∷ bs)
  a_mark before b bs is r e =
      let e' : fault_from (m + n) (90 ∷ before) bs ≡ None = subst (λ (c : ℕ). fault_from (m + n) (c ∷ before) bs ≡ None) is e in
      let w = r.begins (90 ∷ before) refl refl e' in
      record { marked = true; back = bs; whole = ap (λ (c : ℕ). c ∷ bs) is; steps = w.steps; spelled = w.spelled; in_range = w.in_range }

  behind_by : (before : List ℕ) (b : ℕ) (bs : List ℕ) → (b ≡ 90) ⊎ OpensStep b → digits_before before ≡ 0 → Read bs → IsSound (m + n) before b → fault_from (m + n) (b ∷ before) bs ≡ None
      → Marked (marks_before before) (b ∷ bs)
  behind_by before b bs (inl is) value r ok e = a_mark before b bs is r e
  behind_by before b bs (inr o) value r ok e = unmarked (marks_before before) (b ∷ bs) (opened before b bs o value r ok e)

  -- in a number stand neither a mark nor a `?`
  not_inside : (before : List ℕ) (b : ℕ) → (eqb b 90 || eqb b 63) ≡ true → just_after is_leading before ≡ true → IsSound (m + n) before b → ⊥
  not_inside before b sign h ok =
      let open' : just_after is_leading before ≡ false = and_false (eqb b 90 || eqb b 63) (just_after is_leading before) sign ok.ended in
      let bad : true ≡ false = sym h ∙ open' in
      cc

  inside_by : (before : List ℕ) (b : ℕ) (bs : List ℕ) → (b ≡ 90) ⊎ OpensStep b → just_after is_leading before ≡ true → Read bs → IsSound (m + n) before b
      → fault_from (m + n) (b ∷ before) bs ≡ None → Ended (marks_before before) (digits_before before) (b ∷ bs)
  inside_by before b bs (inl is) h r ok e = absurd (not_inside before b (ap (λ (c : ℕ). eqb c 90 || eqb c 63) is) h ok)
  inside_by before b bs (inr (inl k)) h r ok e = digit_read before b bs (inl k) r ok e
  inside_by before b bs (inr (inr (inl k))) h r ok e = digit_read before b bs (inr k) r ok e
  inside_by before b bs (inr (inr (inr is))) h r ok e = absurd (not_inside before b (ap (λ (c : ℕ). eqb c 90 || eqb c 63) is) h ok)

  read_letter : (b : ℕ) (bs : List ℕ) → Read bs → Read (b ∷ bs)
  read_letter b bs r = record {
    begins = λ before value marked e. let p = letter_parts (m + n) before b bs e in begins_by before b bs (kind b before p.0.good) value marked r p.0 p.1;
    behind = λ before value e. let p = letter_parts (m + n) before b bs e in behind_by before b bs (kind b before p.0.good) value r p.0 p.1;
    inside = λ before h e. let p = letter_parts (m + n) before b bs e in inside_by before b bs (kind b before p.0.good) h r p.0 p.1;
  }

  read : (bs : List ℕ) → Read bs
  read [] = read_none
  read (b ∷ bs) = read_letter b bs (read bs)

  letters_read : (bs : List ℕ) → letter_fault (m + n) bs ≡ None → Whole 0 bs
  letters_read bs e = (read bs).begins [] refl refl e

-- ---- texts

text_by : (b : Bool) (p q : Option Fault) (n : ℕ) → cond b (or_else p q) (Some (fault 0 n)) ≡ None → (b ≡ true) × (q ≡ None)
text_by true None q n e = (refl, e)
text_by true (Some f) q n e = absurd (cc)
text_by false p q n e = absurd (cc)

-- a text without a fault spells a code
pub sound_spells : SoundSpells
sound_spells text mandatory e =
    let parts = text_by (is_bracketed text) (label_fault mandatory (labels_of text)) (letter_fault (length mandatory + length (labels_of text)) (letters_of text)) 6 e in
    let w = letters_read (length mandatory) (length (labels_of text)) (letters_of text) parts.1 in
    (record { labels = labels_of text; steps = w.steps }, record { bracketed = parts.0; labels = refl; steps = w.spelled; in_range = w.in_range })
