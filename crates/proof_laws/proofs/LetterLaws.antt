-- The letters of steps whose numbers are in range have no fault.
use Rattle.std.proofs.Common.{◌≡◌, ◌≤◌, ◌<◌, ℕ, suc, ◌+◌, ◌-◌, ◌*◌, Bool, true, false, cond, not, ◌||◌, ◌&&◌, eqb, leb, ltb, List, [], ◌∷◌, ◌++◌}
use Rattle.std.proofs.Common.{length, Option, Some, None, option_map, refl, sym, ap, ◌∙◌, arith, subst, append_assoc}
use mathlib.Core.List.{reverse_aux}
use Rattle.std.specs.Prelude.{find}
use Rattle.std.specs.List.{list_any}
use Rattle.std.proofs.lemmas.Bool.{and_parts, and_left, and_right, and_from, or_left, leb-true, lt-leb, le-leb, ne_eqb, le-ltb}
use Rattle.mm_model.specs.Faults.{Fault, fault, or_else, first_code, first_fault}
use Rattle.proof_model.specs.declared.code.What.{What}
use Rattle.proof_model.specs.declared.code.What.TheVariants as what
use Rattle.proof_model.specs.declared.code.Step.{Step}
use Rattle.proof_model.specs.ProofCode.{is_last, is_leading, EndsNumber, SpellsWhat, SpellsSteps, IsInRange, AreInRange, mark, digits_before}
use Rattle.proof_model.specs.ProofCode.{number_at, marks_before, just_after, bad_letter, number_too_large, mark_at_start, mark_twice, unended_number}
use Rattle.proof_model.specs.ProofCode.{letter_rules, index, letters_end, letter_fault}

pub cond_else : {X : Type 0} (b : Bool) (x y : X) → b ≡ false → cond b x y ≡ y
cond_else true x y e = absurd (cc)
cond_else false x y e = refl

pub cond_then : {X : Type 0} (b : Bool) (x y : X) → b ≡ true → cond b x y ≡ x
cond_then true x y e = refl
cond_then false x y e = absurd (cc)

-- a rule that does not hold is passed over
pub skip : {X : Type 0} (code : ℕ) (rule : List X → X → Bool) (table : List (ℕ × (List X → X → Bool))) (before : List X) (x : X) → rule before x ≡ false
    → first_code ((code, rule) ∷ table) before x ≡ first_code table before x
skip {X} code rule table before x e =
    ap (λ (r : Option (ℕ × (List X → X → Bool))). option_map (λ (q : ℕ × (List X → X → Bool)). q.0) r)
    (cond_else (rule before x) (Some (code, rule)) (find (λ (q : ℕ × (List X → X → Bool)). q.1 before x) table) e)

-- ---- kinds of letters

-- the numbers from low to high
abbrev pub within : ℕ → ℕ → ℕ → Bool
within low high b = leb low b && leb b high

pub bounds : (low high b : ℕ) → within low high b ≡ true → (low ≤ b) × (b ≤ high)
bounds low high b e = let p = and_parts (leb low b) (leb b high) e in (leb-true low b p.0, leb-true b high p.1)

pub below : (low high b : ℕ) → b < low → within low high b ≡ false
below low high b h = and_left (leb low b) (leb b high) (lt-leb low b h)

pub above : (low high b : ℕ) → high < b → within low high b ≡ false
above low high b h = and_right (leb low b) (leb b high) (lt-leb b high h)

pub inside : (low high b : ℕ) → low ≤ b → b ≤ high → within low high b ≡ true
inside low high b h k = and_from (leb low b) (leb b high) (le-leb low b h) (le-leb b high k)

-- what a letter is not
pub record IsDigit (b : ℕ) : Type 0 where
  pub gap : eqb b 63 ≡ false
  pub marks : eqb b 90 ≡ false
  pub good : (before : List ℕ) → bad_letter before b ≡ false

digit : (b : ℕ) → 65 ≤ b → b ≤ 89 → IsDigit b
digit b h k = record {
  gap = ne_eqb b 63 (λ (q : b ≡ 63). omega (arith, h));
  marks = ne_eqb b 90 (λ (q : b ≡ 90). omega (arith, k));
  good = λ before. and_left (not (within 65 90 b)) (not (eqb b 63)) (ap (λ (t : Bool). not t) (inside 65 90 b h (omega (arith, k))));
}

pub leading_digit : (b : ℕ) → is_leading b ≡ true → IsDigit b
leading_digit b e = let r = bounds 85 89 b e in digit b (omega (arith, r.0)) r.1

pub leading_not_last : (b : ℕ) → is_leading b ≡ true → is_last b ≡ false
leading_not_last b e = let r = bounds 85 89 b e in above 65 84 b (omega (arith, r.0))

pub last_digit : (b : ℕ) → is_last b ≡ true → IsDigit b
last_digit b e = let r = bounds 65 84 b e in digit b r.0 (omega (arith, r.1))

pub last_not_leading : (b : ℕ) → is_last b ≡ true → is_leading b ≡ false
last_not_leading b e = let r = bounds 65 84 b e in below 85 89 b (omega (arith, r.1))

-- ---- letters without a fault

pub no_code : (known : ℕ) (before : List ℕ) (b : ℕ) → bad_letter before b ≡ false → number_too_large known before b ≡ false → unended_number before b ≡ false
    → mark_at_start before b ≡ false
    → mark_twice before b ≡ false → first_code (letter_rules known) before b ≡ None
no_code known before b bad large unended start twice =
    skip 1 bad_letter ((2, number_too_large known) ∷ (5, unended_number) ∷ (3, mark_at_start) ∷ (4, mark_twice) ∷ []) before b bad
    ∙ skip 2 (number_too_large known) ((5, unended_number) ∷ (3, mark_at_start) ∷ (4, mark_twice) ∷ []) before b large
    ∙ skip 5 unended_number ((3, mark_at_start) ∷ (4, mark_twice) ∷ []) before b unended
    ∙ skip 3 mark_at_start ((4, mark_twice) ∷ []) before b start
    ∙ skip 4 mark_twice [] before b twice

-- the first fault of the letters that are left, and of their end
abbrev pub fault_from : ℕ → List ℕ → List ℕ → Option Fault
fault_from known before letters = or_else (first_fault index (letter_rules known) before letters) (letters_end (reverse_aux letters before))

passes : (known : ℕ) (before : List ℕ) (b : ℕ) (bs : List ℕ) → first_code (letter_rules known) before b ≡ None → fault_from known before (b ∷ bs) ≡ fault_from known (b ∷ before) bs
passes known before b bs e =
    ap (λ (o : Option ℕ). or_else (or_else (option_map (λ (c : ℕ). fault (length before) c) o) (first_fault index (letter_rules known) (b ∷ before) bs)) (letters_end (reverse_aux bs (b ∷ before)))) e

-- a digit is neither a mark nor a `?`
digit_passes : (known : ℕ) (before : List ℕ) (b : ℕ) (bs : List ℕ) → IsDigit b → number_too_large known before b ≡ false → fault_from known before (b ∷ bs)
    ≡ fault_from known (b ∷ before) bs
digit_passes known before b bs d large =
    let sign : (eqb b 90 || eqb b 63) ≡ false = rw (d.marks, d.gap) refl in
    passes known before b bs (no_code known before b (d.good before) large (and_left (eqb b 90 || eqb b 63) (just_after is_leading before) sign)
    (and_left (eqb b 90) (not (list_any (λ c. is_last c || eqb c 63) before)) d.marks) (and_left (eqb b 90) (just_after (λ c. eqb c 90) before) d.marks))

abbrev is_step_end : ℕ → Bool
is_step_end c = is_last c || eqb c 63

-- a step's letters stand just before, and its mark does not
pub record IsAfterStep (marks : ℕ) (before : List ℕ) : Type 0 where
  pub steps : list_any is_step_end before ≡ true
  pub unmarked : just_after (λ c. eqb c 90) before ≡ false
  pub ended : just_after is_leading before ≡ false
  pub value : digits_before before ≡ 0
  pub marks_are : marks_before before ≡ marks

-- no number is begun
pub record IsBetween (marks : ℕ) (before : List ℕ) : Type 0 where
  pub ended : just_after is_leading before ≡ false
  pub value : digits_before before ≡ 0
  pub marks_are : marks_before before ≡ marks

between : (marks : ℕ) (before : List ℕ) → IsAfterStep marks before → IsBetween marks before
between marks before h = record { ended = h.ended; value = h.value; marks_are = h.marks_are }

pub same_marks : (b : ℕ) (before : List ℕ) → eqb b 90 ≡ false → marks_before (b ∷ before) ≡ marks_before before
same_marks b before e = cond_else (eqb b 90) (suc (marks_before before)) (marks_before before) e

-- where some letters have been passed, this holds of those before, and the fault is the same
abbrev Passed : (List ℕ → Type 0) → ℕ → List ℕ → List ℕ → List ℕ → Type 0
Passed P known before letters rest = (after : List ℕ) × P after × (fault_from known before (letters ++ rest) ≡ fault_from known after rest)

number_passed : (known marks k : ℕ) (before letters rest : List ℕ) → EndsNumber (digits_before before) letters k → marks_before before ≡ marks → k ≤ known + marks
    → Passed (IsAfterStep marks) known before letters rest
number_passed known marks k before [] rest h m le = absurd h
number_passed known marks k before (b ∷ []) rest h m le =
    let d = last_digit b h.0 in
    let low = last_not_leading b h.0 in
    let number : number_at before b ≡ k = sym h.1 in
    let fits : ltb (known + marks_before before) (number_at before b) ≡ false = rw (number, m) (le-ltb (known + marks) k le) in (
      b ∷ before,
      record {
        steps = or_left (is_step_end b) (list_any is_step_end before) (or_left (is_last b) (eqb b 63) h.0);
        unmarked = d.marks;
        ended = low;
        value = cond_else (is_leading b) (5 * digits_before before + (b - 84)) 0 low;
        marks_are = same_marks b before d.marks ∙ m;
      },
      digit_passes known before b rest d (and_right (is_last b) (ltb (known + marks_before before) (number_at before b)) fits),
    )
number_passed known marks k before (b ∷ c ∷ bs) rest h m le =
    let d = leading_digit b h.0 in
    let value : digits_before (b ∷ before) ≡ 5 * digits_before before + (b - 84) = cond_then (is_leading b) (5 * digits_before before + (b - 84)) 0 h.0 in
    let later = number_passed known marks k (b ∷ before) (c ∷ bs) rest (subst (λ (v : ℕ). EndsNumber v (c ∷ bs) k) (sym value) h.1) (same_marks b before d.marks ∙ m) le in
    (later.0, later.1, digit_passes known before b ((c ∷ bs) ++ rest) d (and_left (is_last b) (ltb (known + marks_before before) (number_at before b)) (leading_not_last b h.0)) ∙ later.2)

-- a `?` where no number is begun
gap_passed : (known marks : ℕ) (before letters rest : List ℕ) → letters ≡ 63 ∷ [] → IsBetween marks before → Passed (IsAfterStep marks) known before letters rest
gap_passed known marks before letters rest is h = (
  63 ∷ before,
  record { steps = refl; unmarked = refl; ended = refl; value = refl; marks_are = h.marks_are },
  ap (λ (ls : List ℕ). fault_from known before (ls ++ rest)) is ∙ passes known before 63 rest (no_code known before 63 refl refl h.ended refl refl),
)

number_from : (known marks k : ℕ) (before letters rest : List ℕ) → EndsNumber 0 letters k → IsBetween marks before → k ≤ known + marks
    → Passed (IsAfterStep marks) known before letters rest
number_from known marks k before letters rest s h le = number_passed known marks k before letters rest (subst (λ (v : ℕ). EndsNumber v letters k) (sym h.value) s) h.marks_are le

what_passed : (m n marks : ℕ) (before letters rest : List ℕ) (w : What) → SpellsWhat m n letters w → IsInRange m n marks w → IsBetween marks before
    → Passed (IsAfterStep marks) (m + n) before letters rest
what_passed m n marks before letters rest (what.Hyp k) s t h = number_from (m + n) marks (k + 1) before letters rest s h (omega (arith, t))
what_passed m n marks before letters rest (what.Listed k) s t h = number_from (m + n) marks (m + k + 1) before letters rest s h (omega (arith, t))
what_passed m n marks before letters rest (what.Again k) s t h = number_from (m + n) marks (m + n + k + 1) before letters rest s h (omega (arith, t))
what_passed m n marks before letters rest what.Unknown s t h = gap_passed (m + n) marks before letters rest s h

abbrev marks_with : Bool → ℕ → ℕ
marks_with marked marks = cond marked (suc marks) marks

mark_passed : (known marks : ℕ) (before rest : List ℕ) (marked : Bool) → IsAfterStep marks before → Passed (IsBetween (marks_with marked marks)) known before (mark marked) rest
mark_passed known marks before rest false h = (before, between marks before h, refl)
mark_passed known marks before rest true h =
    let stands : not (list_any is_step_end before) ≡ false = rw h.steps refl in
    (90 ∷ before, record { ended = refl; value = refl; marks_are = ap suc h.marks_are }, passes known before 90 rest (no_code known before 90 refl refl h.ended stands h.unmarked))

steps_sound : (m n marks : ℕ) (before letters : List ℕ) (steps : List Step) → SpellsSteps m n letters steps → AreInRange m n marks steps → IsBetween marks before
    → fault_from (m + n) before letters ≡ None
steps_sound m n marks before letters [] s t h =
    ap (fault_from (m + n) before) s ∙ cond_else (just_after is_leading before) (Some (fault (length before) 5)) None h.ended
steps_sound m n marks before letters (x ∷ xs) (front, rest, whole, one, others) t h =
    let first = what_passed m n marks before one.front (mark x.marked ++ rest) x.what one.what t.0 h in
    let second = mark_passed (m + n) marks first.0 rest x.marked first.1 in
    let parts : letters ≡ one.front ++ (mark x.marked ++ rest) = whole ∙ ap (λ (ls : List ℕ). ls ++ rest) one.whole ∙ append_assoc one.front (mark x.marked) rest in
    ap (fault_from (m + n) before) parts ∙ first.2 ∙ second.2 ∙ steps_sound m n (marks_with x.marked marks) second.0 rest xs others t.1 second.1

-- the letters of steps whose numbers are in range have no fault
pub letters_sound : (m n : ℕ) (letters : List ℕ) (steps : List Step) → SpellsSteps m n letters steps → AreInRange m n 0 steps → letter_fault (m + n) letters ≡ None
letters_sound m n letters steps s t = steps_sound m n 0 [] letters steps s t (record { ended = refl; value = refl; marks_are = refl })
