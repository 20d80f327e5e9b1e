-- Reading letters fails exactly with the first fault of the table.
use Rattle.std.proofs.Common.{◌≡◌, ◌≤◌, ◌<◌, ℕ, suc, ◌+◌, ◌-◌, ◌*◌, ◌^◌, Bool, true, false, cond, not, ◌||◌, ◌&&◌, eqb, leb, ltb, List, [], ◌∷◌}
use Rattle.std.proofs.Common.{length, Option, Some, None, Result, Ok, Err, refl, sym, ap, ◌∙◌, arith, inl, inr}
use mathlib.Core.List.{reverse_aux}
use Rattle.std.specs.List.{list_any}
use Rattle.std.proofs.lemmas.Bool.{cases_Bool, and_left, and_right, and_from, or_left, or_right, or_from, ne_eqb, eqb-true, cases_lt, lt-ltb, le-ltb}
use Rattle.std.proofs.lemmas.Bool.Decides.{nat_tests}
use Rattle.mm_model.specs.Faults.{Fault, fault, or_else, first_code, first_fault}
use Rattle.compressed_proof.proofs.FaultLemmas.{first_code-skip, first_code-take, first_fault-later, first_fault-here}
use Rattle.proof_laws.proofs.LetterLaws.{within, bounds, below, above, inside}
use Rattle.proof_model.specs.ProofCode.{is_last, is_leading, digits_before, number_at, marks_before, just_after, bad_letter, number_too_large}
use Rattle.proof_model.specs.ProofCode.{mark_at_start, mark_twice, unended_number, letter_rules, index, letters_end}
use Rattle.proof_model.specs.declared.code.What.TheVariants.{Unknown}
use Rattle.proof_model.specs.declared.code.Step.{Step}
use Rattle.compressed_proof.specs.declared.steps.Prior.{Prior}
use Rattle.compressed_proof.specs.declared.steps.Prior.TheVariants as prior
use Rattle.compressed_proof.specs.declared.fault.CodeFault.{CodeFault}
use Rattle.compressed_proof.specs.declared.fault.CodeFault.TheVariants as faults
use Rattle.compressed_proof.specs.Decoded.{capped}
use Rattle.compressed_proof.specs.Reading.{value_of, with_digit, with_last, with_front, pending, is_digits, read_letters, marked, what_of}

abbrev pub is_step : ℕ → Bool
is_step c = is_last c || eqb c 63

pub cond_then : {X : Type 0} (b : Bool) (x y : X) → b ≡ true → cond b x y ≡ x
cond_then true x y e = refl
cond_then false x y e = absurd cc

pub cond_else : {X : Type 0} (b : Bool) (x y : X) → b ≡ false → cond b x y ≡ y
cond_else true x y e = absurd cc
cond_else false x y e = refl

-- what the letters before leave
abbrev pub IsPrior : List ℕ → Prior → Type 0
IsPrior before prior.Start = before ≡ []
IsPrior before (prior.Digits v) = (just_after is_leading before ≡ true) × (v ≡ capped (digits_before before))
IsPrior before (prior.Step w) = (just_after is_leading before ≡ false) × (just_after (λ c. eqb c 90) before ≡ false) × (list_any is_step before ≡ true) × (digits_before before ≡ 0)
IsPrior before prior.Mark = (just_after is_leading before ≡ false) × (just_after (λ c. eqb c 90) before ≡ true) × (list_any is_step before ≡ true) × (digits_before before ≡ 0)

-- the fault of the table that an error is
abbrev pub fault_of : CodeFault → Option Fault
fault_of faults.Memory = None
fault_of (faults.BadLetter i) = Some (fault i 1)
fault_of (faults.NumberTooLarge i n) = Some (fault i 2)
fault_of (faults.MarkAtStart i) = Some (fault i 3)
fault_of (faults.MarkTwice i) = Some (fault i 4)
fault_of (faults.UnendedNumber i) = Some (fault i 5)
fault_of (faults.NoBracket i) = Some (fault i 6)
fault_of (faults.MandatoryListed i l) = Some (fault i 7)
fault_of (faults.LabelTwice i l) = Some (fault i 8)

abbrev pub fault_in : {X : Type 0} → Result X CodeFault → Option Fault
fault_in (Ok x) = None
fault_in (Err e) = fault_of e

fault_in-front : (front : List Step) (r : Result (List Step) CodeFault) → fault_in (with_front front r) ≡ fault_in r
fault_in-front front (Ok ss) = refl
fault_in-front front (Err e) = refl

abbrev pub fault_from : ℕ → List ℕ → List ℕ → Option Fault
fault_from there before letters = or_else (first_fault index (letter_rules there) before letters) (letters_end (reverse_aux letters before))

-- kinds of letters
not_bad : (b : ℕ) → 65 ≤ b → b ≤ 90 → (not (within 65 90 b) && not (eqb b 63)) ≡ false
not_bad b h k = and_left (not (within 65 90 b)) (not (eqb b 63)) (ap (λ (t : Bool). not t) (inside 65 90 b h k))

pub leading_is : (b : ℕ) → is_leading b ≡ true → (is_last b ≡ false) × (eqb b 63 ≡ false) × (eqb b 90 ≡ false) × ((not (leb 65 b && leb b 90) && not (eqb b 63)) ≡ false)
leading_is b e =
    let r = bounds 85 89 b e in
    (above 65 84 b (omega (arith, r.0)), ne_eqb b 63 (λ (q : b ≡ 63). omega (arith, r.0)), ne_eqb b 90 (λ (q : b ≡ 90). omega (arith, r.1)), not_bad b (omega (arith, r.0)) (omega (arith, r.1)))

pub last_is : (b : ℕ) → is_last b ≡ true → (is_leading b ≡ false) × (eqb b 63 ≡ false) × (eqb b 90 ≡ false) × ((not (leb 65 b && leb b 90) && not (eqb b 63)) ≡ false)
last_is b e =
    let r = bounds 65 84 b e in
    (below 85 89 b (omega (arith, r.1)), ne_eqb b 63 (λ (q : b ≡ 63). omega (arith, r.0)), ne_eqb b 90 (λ (q : b ≡ 90). omega (arith, r.1)), not_bad b (omega (arith, r.0)) (omega (arith, r.1)))

pub other_is : (b : ℕ) → is_leading b ≡ false → is_last b ≡ false → eqb b 63 ≡ false → eqb b 90 ≡ false → (not (leb 65 b && leb b 90) && not (eqb b 63)) ≡ true
other_is b h1 h2 h3 h4 = grind (arith, nat_tests)

pub value_is : (before : List ℕ) (p : Prior) → IsPrior before p → value_of p ≡ capped (digits_before before)
value_is before prior.Start h = rw h refl
value_is before (prior.Digits v) h = h.1
value_is before (prior.Step w) h = rw h.3 refl
value_is before prior.Mark h = rw h.3 refl

pub digit_is : (d x : ℕ) → capped (capped (5 * capped d) + x) ≡ capped (5 * d + x)
digit_is d x = omega arith

last_lt : (known d x : ℕ) → known < 2 ^ 64 - 1 → ltb known (capped (capped (20 * capped d) + x)) ≡ ltb known (20 * d + x)
last_lt known d x room =
    elim (cases_lt known (20 * d + x)) [
      | inl lt ↦ lt-ltb known (capped (capped (20 * capped d) + x)) (omega arith) ∙ sym (lt-ltb known (20 * d + x) lt)
      | inr le ↦ le-ltb known (capped (capped (20 * capped d) + x)) (omega arith) ∙ sym (le-ltb known (20 * d + x) le)
    ]

marks_same : (b : ℕ) (before : List ℕ) → eqb b 90 ≡ false → marks_before (b ∷ before) ≡ marks_before before
marks_same b before e = rw e refl

marks_more : (b : ℕ) (before : List ℕ) → eqb b 90 ≡ true → marks_before (b ∷ before) ≡ suc (marks_before before)
marks_more b before e = rw e refl

-- which rule holds
no_rule : (there : ℕ) (before : List ℕ) (b : ℕ) → bad_letter before b ≡ false → number_too_large there before b ≡ false
    → unended_number before b ≡ false → mark_at_start before b ≡ false → mark_twice before b ≡ false → first_code (letter_rules there) before b ≡ None
no_rule there before b h1 h2 h5 h3 h4 =
    first_code-skip 1 bad_letter ((2, number_too_large there) ∷ (5, unended_number) ∷ (3, mark_at_start) ∷ (4, mark_twice) ∷ []) before b h1
    ∙ first_code-skip 2 (number_too_large there) ((5, unended_number) ∷ (3, mark_at_start) ∷ (4, mark_twice) ∷ []) before b h2
    ∙ first_code-skip 5 unended_number ((3, mark_at_start) ∷ (4, mark_twice) ∷ []) before b h5
    ∙ first_code-skip 3 mark_at_start ((4, mark_twice) ∷ []) before b h3
    ∙ first_code-skip 4 mark_twice [] before b h4

rule_2 : (there : ℕ) (before : List ℕ) (b : ℕ) → bad_letter before b ≡ false → number_too_large there before b ≡ true → first_code (letter_rules there) before b ≡ Some 2
rule_2 there before b h1 h2 =
    first_code-skip 1 bad_letter ((2, number_too_large there) ∷ (5, unended_number) ∷ (3, mark_at_start) ∷ (4, mark_twice) ∷ []) before b h1
    ∙ first_code-take 2 (number_too_large there) ((5, unended_number) ∷ (3, mark_at_start) ∷ (4, mark_twice) ∷ []) before b h2

rule_5 : (there : ℕ) (before : List ℕ) (b : ℕ) → bad_letter before b ≡ false → number_too_large there before b ≡ false
    → unended_number before b ≡ true → first_code (letter_rules there) before b ≡ Some 5
rule_5 there before b h1 h2 h5 =
    first_code-skip 1 bad_letter ((2, number_too_large there) ∷ (5, unended_number) ∷ (3, mark_at_start) ∷ (4, mark_twice) ∷ []) before b h1
    ∙ first_code-skip 2 (number_too_large there) ((5, unended_number) ∷ (3, mark_at_start) ∷ (4, mark_twice) ∷ []) before b h2
    ∙ first_code-take 5 unended_number ((3, mark_at_start) ∷ (4, mark_twice) ∷ []) before b h5

rule_3 : (there : ℕ) (before : List ℕ) (b : ℕ) → bad_letter before b ≡ false → number_too_large there before b ≡ false
    → unended_number before b ≡ false → mark_at_start before b ≡ true → first_code (letter_rules there) before b ≡ Some 3
rule_3 there before b h1 h2 h5 h3 =
    first_code-skip 1 bad_letter ((2, number_too_large there) ∷ (5, unended_number) ∷ (3, mark_at_start) ∷ (4, mark_twice) ∷ []) before b h1
    ∙ first_code-skip 2 (number_too_large there) ((5, unended_number) ∷ (3, mark_at_start) ∷ (4, mark_twice) ∷ []) before b h2
    ∙ first_code-skip 5 unended_number ((3, mark_at_start) ∷ (4, mark_twice) ∷ []) before b h5
    ∙ first_code-take 3 mark_at_start ((4, mark_twice) ∷ []) before b h3

rule_4 : (there : ℕ) (before : List ℕ) (b : ℕ) → bad_letter before b ≡ false → number_too_large there before b ≡ false
    → unended_number before b ≡ false → mark_at_start before b ≡ false → mark_twice before b ≡ true
    → first_code (letter_rules there) before b ≡ Some 4
rule_4 there before b h1 h2 h5 h3 h4 =
    first_code-skip 1 bad_letter ((2, number_too_large there) ∷ (5, unended_number) ∷ (3, mark_at_start) ∷ (4, mark_twice) ∷ []) before b h1
    ∙ first_code-skip 2 (number_too_large there) ((5, unended_number) ∷ (3, mark_at_start) ∷ (4, mark_twice) ∷ []) before b h2
    ∙ first_code-skip 5 unended_number ((3, mark_at_start) ∷ (4, mark_twice) ∷ []) before b h5
    ∙ first_code-skip 3 mark_at_start ((4, mark_twice) ∷ []) before b h3
    ∙ first_code-take 4 mark_twice [] before b h4

goes_on : (there : ℕ) (before : List ℕ) (b : ℕ) (bs : List ℕ) → first_code (letter_rules there) before b ≡ None → fault_from there (b ∷ before) bs ≡ fault_from there before (b ∷ bs)
goes_on there before b bs e = ap (λ (f : Option Fault). or_else f (letters_end (reverse_aux bs (b ∷ before)))) (sym (first_fault-later index (letter_rules there) before b bs e))

stops : (there : ℕ) (before : List ℕ) (b : ℕ) (bs : List ℕ) (code : ℕ) → first_code (letter_rules there) before b ≡ Some code → Some (fault (length before) code) ≡ fault_from there before (b ∷ bs)
stops there before b bs code e = ap (λ (f : Option Fault). or_else f (letters_end (reverse_aux bs (b ∷ before)))) (sym (first_fault-here index (letter_rules there) before b bs code e))

-- reading on behind this letter
abbrev Later : ℕ → ℕ → ℕ → List ℕ → ℕ → List ℕ → Type 0
Later m n marks before b bs =
    (q : Prior) (k : ℕ) → IsPrior (b ∷ before) q → k ≡ marks_before (b ∷ before) → k ≤ suc marks
    → fault_in (read_letters m n k q (suc (length before)) bs) ≡ fault_from (m + n) (b ∷ before) bs

at_leading : (m n marks : ℕ) (p : Prior) (before : List ℕ) (b : ℕ) (bs : List ℕ) → IsPrior before p → marks ≡ marks_before before
    → is_leading b ≡ true → Later m n marks before b bs
    → fault_in (read_letters m n marks p (length before) (b ∷ bs)) ≡ fault_from (m + n) before (b ∷ bs)
at_leading m n marks p before b bs h hm e later =
    let f = leading_is b e in
    let digits : with_digit p b ≡ capped (digits_before (b ∷ before)) = rw (e, value_is before p h) (digit_is (digits_before before) (b - 84)) in
    let next = later (prior.Digits (with_digit p b)) marks (e, digits) (hm ∙ sym (marks_same b before f.2)) (omega arith) in
    let none : first_code (letter_rules (m + n)) before b ≡ None =
    no_rule (m + n) before b f.3 (and_left (is_last b) (ltb (m + n + marks_before before) (number_at before b)) f.0)
    (and_left (eqb b 90 || eqb b 63) (just_after is_leading before) (or_from (eqb b 90) (eqb b 63) f.2 f.1))
    (and_left (eqb b 90) (not (list_any is_step before)) f.2) (and_left (eqb b 90) (just_after (λ c. eqb c 90) before) f.2) in
    let read : read_letters m n marks p (length before) (b ∷ bs) ≡ with_front (pending p) (read_letters m n marks (prior.Digits (with_digit p b)) (suc (length before)) bs) = rw e refl in
    ap (λ (r : Result (List Step) CodeFault). fault_in r) read
    ∙ fault_in-front (pending p) (read_letters m n marks (prior.Digits (with_digit p b)) (suc (length before)) bs) ∙ next
    ∙ goes_on (m + n) before b bs none

-- the rules at a letter that is no leading digit
at_last : (m n marks : ℕ) (p : Prior) (before : List ℕ) (b : ℕ) (bs : List ℕ) → IsPrior before p → marks ≡ marks_before before
    → m + n + marks < 2 ^ 64 - 1 → is_last b ≡ true → Later m n marks before b bs
    → fault_in (read_letters m n marks p (length before) (b ∷ bs)) ≡ fault_from (m + n) before (b ∷ bs)
at_last m n marks p before b bs h hm room e later =
    let f = last_is b e in
    let large : ltb (m + n + marks) (with_last p b) ≡ ltb (m + n + marks_before before) (number_at before b) =
    rw (value_is before p h, ← hm) (last_lt (m + n + marks) (digits_before before) (b - 64) room) in
    let next_step = read_letters m n marks (prior.Step (what_of m n (with_last p b))) (suc (length before)) bs in
    elim (cases_Bool (ltb (m + n + marks) (with_last p b))) [
      | inl t ↦
          let two : first_code (letter_rules (m + n)) before b ≡ Some 2 =
          rule_2 (m + n) before b f.3 (and_from (is_last b) (ltb (m + n + marks_before before) (number_at before b)) e (sym large ∙ t)) in
          let read : read_letters m n marks p (length before) (b ∷ bs) ≡ Err (faults.NumberTooLarge (length before) (with_last p b)) =
          rw (f.0, e)
          (cond_then (ltb (m + n + marks) (with_last p b)) (Err (faults.NumberTooLarge (length before) (with_last p b)))
          (with_front (pending p) next_step) t) in
          ap (λ (r : Result (List Step) CodeFault). fault_in r) read ∙ stops (m + n) before b bs 2 two
      | inr t ↦
          let none : first_code (letter_rules (m + n)) before b ≡ None =
          no_rule (m + n) before b f.3 (and_right (is_last b) (ltb (m + n + marks_before before) (number_at before b)) (sym large ∙ t))
          (and_left (eqb b 90 || eqb b 63) (just_after is_leading before) (or_from (eqb b 90) (eqb b 63) f.2 f.1))
          (and_left (eqb b 90) (not (list_any is_step before)) f.2) (and_left (eqb b 90) (just_after (λ c. eqb c 90) before) f.2) in
          let read : read_letters m n marks p (length before) (b ∷ bs) ≡ with_front (pending p) next_step =
          rw (f.0, e)
          (cond_else (ltb (m + n + marks) (with_last p b)) (Err (faults.NumberTooLarge (length before) (with_last p b)))
          (with_front (pending p) next_step) t) in
          let next =
          later (prior.Step (what_of m n (with_last p b))) marks (
            f.0,
            f.2,
            or_left (is_step b) (list_any is_step before) (or_left (is_last b) (eqb b 63) e),
            cond_else (is_leading b) (5 * digits_before before + (b - 84)) 0 f.0,
          )
          (hm ∙ sym (marks_same b before f.2)) (omega arith) in
          ap (λ (r : Result (List Step) CodeFault). fault_in r) read ∙ fault_in-front (pending p) next_step ∙ next ∙ goes_on (m + n) before b bs none
    ]

-- the facts of a letter that is `Z` or `?`
pub query_is : (b : ℕ) → eqb b 63 ≡ true → (is_leading b ≡ false) × (is_last b ≡ false) × (eqb b 90 ≡ false)
query_is b e =
    let is : b ≡ 63 = eqb-true b 63 e in
    (below 85 89 b (omega arith), below 65 84 b (omega arith), ne_eqb b 90 (λ (q : b ≡ 90). omega arith))

pub mark_is : (b : ℕ) → eqb b 90 ≡ true → (is_leading b ≡ false) × (is_last b ≡ false) × (eqb b 63 ≡ false)
mark_is b e =
    let is : b ≡ 90 = eqb-true b 90 e in
    (above 85 89 b (omega arith), above 65 84 b (omega arith), ne_eqb b 63 (λ (q : b ≡ 63). omega arith))

-- what stands before is no leading digit
undigited : (before : List ℕ) (p : Prior) → IsPrior before p → is_digits p ≡ false → just_after is_leading before ≡ false
undigited before prior.Start h e = rw h refl
undigited before (prior.Digits v) h e = absurd cc
undigited before (prior.Step w) h e = h.0
undigited before prior.Mark h e = h.0

digited : (before : List ℕ) (p : Prior) → IsPrior before p → is_digits p ≡ true → just_after is_leading before ≡ true
digited before prior.Start h e = absurd cc
digited before (prior.Digits v) h e = h.0
digited before (prior.Step w) h e = absurd cc
digited before prior.Mark h e = absurd cc

at_query : (m n marks : ℕ) (p : Prior) (before : List ℕ) (b : ℕ) (bs : List ℕ) → IsPrior before p → marks ≡ marks_before before → eqb b 63 ≡ true
    → Later m n marks before b bs → fault_in (read_letters m n marks p (length before) (b ∷ bs)) ≡ fault_from (m + n) before (b ∷ bs)
at_query m n marks p before b bs h hm e later =
    let f = query_is b e in
    let fine : bad_letter before b ≡ false = and_right (not (within 65 90 b)) (not (eqb b 63)) (ap (λ (t : Bool). not t) e) in
    let small : number_too_large (m + n) before b ≡ false = and_left (is_last b) (ltb (m + n + marks_before before) (number_at before b)) f.1 in
    let next_step = read_letters m n marks (prior.Step Unknown) (suc (length before)) bs in
    elim (cases_Bool (is_digits p)) [
      | inl t ↦
          let five : first_code (letter_rules (m + n)) before b ≡ Some 5 =
          rule_5 (m + n) before b fine small
          (and_from (eqb b 90 || eqb b 63) (just_after is_leading before) (or_right (eqb b 90) (eqb b 63) e) (digited before p h t)) in
          let read : read_letters m n marks p (length before) (b ∷ bs) ≡ Err (faults.UnendedNumber (length before)) =
          rw (f.0, f.1, e) (cond_then (is_digits p) (Err (faults.UnendedNumber (length before))) (with_front (pending p) next_step) t) in
          ap (λ (r : Result (List Step) CodeFault). fault_in r) read ∙ stops (m + n) before b bs 5 five
      | inr t ↦
          let none : first_code (letter_rules (m + n)) before b ≡ None =
          no_rule (m + n) before b fine small (and_right (eqb b 90 || eqb b 63) (just_after is_leading before) (undigited before p h t))
          (and_left (eqb b 90) (not (list_any is_step before)) f.2) (and_left (eqb b 90) (just_after (λ c. eqb c 90) before) f.2) in
          let read : read_letters m n marks p (length before) (b ∷ bs) ≡ with_front (pending p) next_step =
          rw (f.0, f.1, e) (cond_else (is_digits p) (Err (faults.UnendedNumber (length before))) (with_front (pending p) next_step) t) in
          let next =
          later (prior.Step Unknown) marks (
            f.0,
            f.2,
            or_left (is_step b) (list_any is_step before) (or_right (is_last b) (eqb b 63) e),
            cond_else (is_leading b) (5 * digits_before before + (b - 84)) 0 f.0,
          )
          (hm ∙ sym (marks_same b before f.2)) (omega arith) in
          ap (λ (r : Result (List Step) CodeFault). fault_in r) read ∙ fault_in-front (pending p) next_step ∙ next ∙ goes_on (m + n) before b bs none
    ]

at_mark : (m n marks : ℕ) (p : Prior) (before : List ℕ) (b : ℕ) (bs : List ℕ) → IsPrior before p → marks ≡ marks_before before → eqb b 90 ≡ true
    → Later m n marks before b bs → fault_in (read_letters m n marks p (length before) (b ∷ bs)) ≡ fault_from (m + n) before (b ∷ bs)
at_mark m n marks prior.Start before b bs h hm e later =
    let f = mark_is b e in
    let is : b ≡ 90 = eqb-true b 90 e in
    let small : number_too_large (m + n) before b ≡ false = and_left (is_last b) (ltb (m + n + marks_before before) (number_at before b)) f.1 in
    let three =
    rule_3 (m + n) before b (not_bad b (omega arith) (omega arith)) small
    (and_right (eqb b 90 || eqb b 63) (just_after is_leading before) (rw h refl))
    (and_from (eqb b 90) (not (list_any is_step before)) e (rw h refl)) in
    let read : read_letters m n marks prior.Start (length before) (b ∷ bs) ≡ Err (faults.MarkAtStart (length before)) = rw (f.0, f.1, f.2, e) refl in
    ap (λ (r : Result (List Step) CodeFault). fault_in r) read ∙ stops (m + n) before b bs 3 three
at_mark m n marks (prior.Digits v) before b bs h hm e later =
    let f = mark_is b e in
    let is : b ≡ 90 = eqb-true b 90 e in
    let small : number_too_large (m + n) before b ≡ false = and_left (is_last b) (ltb (m + n + marks_before before) (number_at before b)) f.1 in
    let five = rule_5 (m + n) before b (not_bad b (omega arith) (omega arith)) small (and_from (eqb b 90 || eqb b 63) (just_after is_leading before) (or_left (eqb b 90) (eqb b 63) e) h.0) in
    let read : read_letters m n marks (prior.Digits v) (length before) (b ∷ bs) ≡ Err (faults.UnendedNumber (length before)) = rw (f.0, f.1, f.2, e) refl in
    ap (λ (r : Result (List Step) CodeFault). fault_in r) read ∙ stops (m + n) before b bs 5 five
at_mark m n marks (prior.Step w) before b bs h hm e later =
    let f = mark_is b e in
    let is : b ≡ 90 = eqb-true b 90 e in
    let small : number_too_large (m + n) before b ≡ false = and_left (is_last b) (ltb (m + n + marks_before before) (number_at before b)) f.1 in
    let none =
    no_rule (m + n) before b (not_bad b (omega arith) (omega arith)) small (and_right (eqb b 90 || eqb b 63) (just_after is_leading before) h.0)
    (and_right (eqb b 90) (not (list_any is_step before)) (ap (λ (t : Bool). not t) h.2))
    (and_right (eqb b 90) (just_after (λ c. eqb c 90) before) h.1) in
    let next_step = read_letters m n (suc marks) prior.Mark (suc (length before)) bs in
    let read : read_letters m n marks (prior.Step w) (length before) (b ∷ bs) ≡ with_front (marked w ∷ []) next_step = rw (f.0, f.1, f.2, e) refl in
    let next =
    later prior.Mark (suc marks)
    (f.0, e, or_right (is_step b) (list_any is_step before) h.2, cond_else (is_leading b) (5 * digits_before before + (b - 84)) 0 f.0)
    (ap (λ (k : ℕ). suc k) hm ∙ sym (marks_more b before e)) (omega arith) in
    ap (λ (r : Result (List Step) CodeFault). fault_in r) read ∙ fault_in-front (marked w ∷ []) next_step ∙ next ∙ goes_on (m + n) before b bs none
at_mark m n marks prior.Mark before b bs h hm e later =
    let f = mark_is b e in
    let is : b ≡ 90 = eqb-true b 90 e in
    let small : number_too_large (m + n) before b ≡ false = and_left (is_last b) (ltb (m + n + marks_before before) (number_at before b)) f.1 in
    let four =
    rule_4 (m + n) before b (not_bad b (omega arith) (omega arith)) small (and_right (eqb b 90 || eqb b 63) (just_after is_leading before) h.0)
    (and_right (eqb b 90) (not (list_any is_step before)) (ap (λ (t : Bool). not t) h.2))
    (and_from (eqb b 90) (just_after (λ c. eqb c 90) before) e h.1) in
    let read : read_letters m n marks prior.Mark (length before) (b ∷ bs) ≡ Err (faults.MarkTwice (length before)) = rw (f.0, f.1, f.2, e) refl in
    ap (λ (r : Result (List Step) CodeFault). fault_in r) read ∙ stops (m + n) before b bs 4 four

at_end : (m n marks : ℕ) (p : Prior) (before : List ℕ) → IsPrior before p → fault_in (read_letters m n marks p (length before) []) ≡ fault_from (m + n) before []
at_end m n marks prior.Start before h = rw h refl
at_end m n marks (prior.Digits v) before h = rw h.0 refl
at_end m n marks (prior.Step w) before h = rw h.0 refl
at_end m n marks prior.Mark before h = rw h.0 refl

pub fault_law : (m n marks : ℕ) (p : Prior) (before letters : List ℕ) → IsPrior before p → marks ≡ marks_before before
    → m + n + marks + length letters < 2 ^ 64 - 1 → fault_in (read_letters m n marks p (length before) letters) ≡ fault_from (m + n) before letters
fault_law m n marks p before [] h hm room = at_end m n marks p before h
fault_law m n marks p before (b ∷ bs) h hm room =
    let later : Later m n marks before b bs = λ q k hq hk le. fault_law m n k q (b ∷ before) bs hq hk (omega arith) in
    elim (cases_Bool (is_leading b)) [
      | inl e ↦ at_leading m n marks p before b bs h hm e later
      | inr e1 ↦
          elim (cases_Bool (is_last b)) [
            | inl e ↦ at_last m n marks p before b bs h hm (omega arith) e later
            | inr e2 ↦
                elim (cases_Bool (eqb b 63)) [
                  | inl e ↦ at_query m n marks p before b bs h hm e later
                  | inr e3 ↦
                      elim (cases_Bool (eqb b 90)) [
                        | inl e ↦ at_mark m n marks p before b bs h hm e later
                        | inr e4 ↦
                            let one : first_code (letter_rules (m + n)) before b ≡ Some 1 =
                            first_code-take 1 bad_letter
                            ((2, number_too_large (m + n)) ∷ (5, unended_number) ∷ (3, mark_at_start) ∷ (4, mark_twice) ∷ []) before b
                            (other_is b e1 e2 e3 e4) in
                            let read : read_letters m n marks p (length before) (b ∷ bs) ≡ Err (faults.BadLetter (length before)) = rw (e1, e2, e3, e4) refl in
                            ap (λ (r : Result (List Step) CodeFault). fault_in r) read ∙ stops (m + n) before b bs 1 one
                      ]
                ]
          ]
    ]
