-- What was read without a fault is spelled by the letters, and each step names what is there.
use Rattle.std.proofs.Common.{◌≡◌, ◌≤◌, ◌<◌, ℕ, suc, ◌+◌, ◌-◌, ◌*◌, ◌^◌, true, false, eqb, ltb, List, [], ◌∷◌, ◌++◌, length, None, Result, Ok, Err}
use Rattle.std.proofs.Common.{refl, sym, ap, ◌∙◌, arith, subst, inl, inr, append_assoc}
use Rattle.std.proofs.lemmas.List.{append-nil}
use Rattle.std.proofs.lemmas.Bool.{cases_Bool, eqb-true, ltb-true, ltb-false}
use Rattle.proof_model.specs.ProofCode.{is_last, is_leading, EndsNumber, SpellsNumber, SpellsWhat, SpellsStep, SpellsSteps, IsInRange, AreInRange, letter_fault}
use Rattle.proof_model.specs.declared.code.What.TheVariants.{Unknown}
use Rattle.proof_model.specs.declared.code.Step.{Step}
use Rattle.compressed_proof.specs.declared.steps.Prior.{Prior}
use Rattle.compressed_proof.specs.declared.steps.Prior.TheVariants as prior
use Rattle.compressed_proof.specs.Decoded.{capped}
use Rattle.compressed_proof.specs.Reading.{value_of, with_digit, with_last, with_front, pending, is_digits, read_letters, marked, plain, what_of}
use Rattle.compressed_proof.specs.declared.fault.CodeFault.{CodeFault}
use Rattle.compressed_proof.specs.declared.fault.CodeFault.TheVariants as faults
use Rattle.compressed_proof.proofs.FaultLaw.{fault_in, fault_law, cond_then, cond_else, mark_is, digit_is}
use Rattle.proof_laws.proofs.LetterLaws.{bounds}

-- leading digits that take the value from v to t
abbrev Leads : ℕ → List ℕ → ℕ → Type 0
Leads v [] t = t ≡ v
Leads v (b ∷ bs) t = (is_leading b ≡ true) × Leads (5 * v + (b - 84)) bs t

Leads-push : (v : ℕ) (ds : List ℕ) (t b : ℕ) → Leads v ds t → is_leading b ≡ true → Leads v (ds ++ b ∷ []) (5 * t + (b - 84))
Leads-push v [] t b h e = (e, ap (λ (x : ℕ). 5 * x + (b - 84)) h)
Leads-push v (d ∷ ds) t b h e = (h.0, Leads-push (5 * v + (d - 84)) ds t b h.1 e)

EndsNumber-Leads : (v : ℕ) (ds : List ℕ) (t b : ℕ) → Leads v ds t → is_last b ≡ true → EndsNumber v (ds ++ b ∷ []) (20 * t + (b - 64))
EndsNumber-Leads v [] t b h e = (e, ap (λ (x : ℕ). 20 * x + (b - 64)) h)
EndsNumber-Leads v (d ∷ []) t b h e = (h.0, (e, ap (λ (x : ℕ). 20 * x + (b - 64)) h.1))
EndsNumber-Leads v (d ∷ c ∷ ds) t b h e = (h.0, EndsNumber-Leads (5 * v + (d - 84)) (c ∷ ds) t b h.1 e)

-- the letters before, of a number or a step that is not written down yet
abbrev PriorText : ℕ → ℕ → Prior → List ℕ → Type 0
PriorText m n prior.Start front = front ≡ []
PriorText m n prior.Mark front = front ≡ []
PriorText m n (prior.Digits v) front = (t : ℕ) × Leads 0 front t × (v ≡ capped t)
PriorText m n (prior.Step w) front = SpellsWhat m n front w

-- those of a number alone
abbrev digits_in : Prior → List ℕ → List ℕ
digits_in prior.Start front = front
digits_in prior.Mark front = front
digits_in (prior.Digits v) front = front
digits_in (prior.Step w) front = []

digits_are : (m n : ℕ) (p : Prior) (front : List ℕ) → PriorText m n p front → (t : ℕ) × Leads 0 (digits_in p front) t × (value_of p ≡ capped t)
digits_are m n prior.Start front h = (0, subst (λ (f : List ℕ). Leads 0 f 0) (sym h) refl, refl)
digits_are m n prior.Mark front h = (0, subst (λ (f : List ℕ). Leads 0 f 0) (sym h) refl, refl)
digits_are m n (prior.Digits v) front h = h
digits_are m n (prior.Step w) front h = (0, refl, refl)

no_digits : (m n : ℕ) (p : Prior) (front : List ℕ) → PriorText m n p front → is_digits p ≡ false → digits_in p front ≡ []
no_digits m n prior.Start front h e = h
no_digits m n prior.Mark front h e = h
no_digits m n (prior.Digits v) front h e = absurd cc
no_digits m n (prior.Step w) front h e = refl

-- a step that was not marked is written down
flush : (m n : ℕ) (p : Prior) (front rest : List ℕ) (ss : List Step) → PriorText m n p front → SpellsSteps m n (digits_in p front ++ rest) ss → SpellsSteps m n (front ++ rest) (pending p ++ ss)
flush m n prior.Start front rest ss h s = s
flush m n prior.Mark front rest ss h s = s
flush m n (prior.Digits v) front rest ss h s = s
flush m n (prior.Step w) front rest ss h s = (front, rest, refl, record { front = front; what = h; whole = sym (append-nil front) }, s)

front_ok : (front : List Step) (r : Result (List Step) CodeFault) (steps : List Step) → with_front front r ≡ Ok steps → (ss : List Step) × (r ≡ Ok ss) × (front ++ ss ≡ steps)
front_ok front (Ok ss) steps e = (ss, refl, cc)
front_ok front (Err f) steps e = absurd cc

-- a number in range names this
SpellsWhat-what_of : (m n k number : ℕ) (front : List ℕ) → k ≡ number → 0 < number → SpellsNumber front k → SpellsWhat m n front (what_of m n number)
SpellsWhat-what_of m n k number front same positive s =
    elim (cases_Bool (ltb number (m + 1))) [
      | inl e ↦ let is : k ≡ number - 1 + 1 = omega arith in rw e (subst (λ (x : ℕ). SpellsNumber front x) is s)
      | inr e ↦
          let high : m + 1 ≤ number = ltb-false number (m + 1) e in
          elim (cases_Bool (ltb number (m + n + 1))) [
            | inl e2 ↦ let is : k ≡ m + (number - m - 1) + 1 = omega arith in rw (e, e2) (subst (λ (x : ℕ). SpellsNumber front x) is s)
            | inr e2 ↦
                let higher : m + n + 1 ≤ number = ltb-false number (m + n + 1) e2 in
                let is : k ≡ m + n + (number - m - n - 1) + 1 = omega arith in rw (e, e2) (subst (λ (x : ℕ). SpellsNumber front x) is s)
          ]
    ]

no_fault : {X : Type 0} (f : CodeFault) (x : X) → (Err f ≡ Ok x) → ⊥
no_fault {X} f x e = absurd cc

-- a letter that is read without a fault: a leading one or a last one of a number, `?`, or a mark
letter_read : {A : Type 0} (m n marks i : ℕ) (p : Prior) (b : ℕ) (bs : List ℕ) (steps : List Step) → read_letters m n marks p i (b ∷ bs) ≡ Ok steps
    → (is_leading b ≡ true → with_front (pending p) (read_letters m n marks (prior.Digits (with_digit p b)) (suc i) bs) ≡ Ok steps → A)
    → (is_last b ≡ true → with_last p b ≤ m + n + marks → with_front (pending p) (read_letters m n marks (prior.Step (what_of m n (with_last p b))) (suc i) bs) ≡ Ok steps → A)
    → (eqb b 63 ≡ true → is_digits p ≡ false → with_front (pending p) (read_letters m n marks (prior.Step Unknown) (suc i) bs) ≡ Ok steps → A)
    → (eqb b 90 ≡ true → A) → A
letter_read {A} m n marks i p b bs steps e leading last unknown mark =
    elim (cases_Bool (is_leading b)) [
      | inl e1 ↦ leading e1 (rw e1 at e)
      | inr e1 ↦
          elim (cases_Bool (is_last b)) [
            | inl e2 ↦
                let next = with_front (pending p) (read_letters m n marks (prior.Step (what_of m n (with_last p b))) (suc i) bs) in
                let large = Err (faults.NumberTooLarge i (with_last p b)) in
                elim (cases_Bool (ltb (m + n + marks) (with_last p b))) [
                  | inl t ↦ absurd (no_fault (faults.NumberTooLarge i (with_last p b)) steps (sym (cond_then (ltb (m + n + marks) (with_last p b)) large next t) ∙ rw (e1, e2) at e))
                  | inr t ↦ last e2 (ltb-false (m + n + marks) (with_last p b) t) (sym (cond_else (ltb (m + n + marks) (with_last p b)) large next t) ∙ rw (e1, e2) at e)
                ]
            | inr e2 ↦
                elim (cases_Bool (eqb b 63)) [
                  | inl e3 ↦
                      let next = with_front (pending p) (read_letters m n marks (prior.Step Unknown) (suc i) bs) in
                      elim (cases_Bool (is_digits p)) [
                        | inl t ↦ absurd (no_fault (faults.UnendedNumber i) steps (sym (cond_then (is_digits p) (Err (faults.UnendedNumber i)) next t) ∙ rw (e1, e2, e3) at e))
                        | inr t ↦ unknown e3 t (sym (cond_else (is_digits p) (Err (faults.UnendedNumber i)) next t) ∙ rw (e1, e2, e3) at e)
                      ]
                  | inr e3 ↦
                      elim (cases_Bool (eqb b 90)) [
                        | inl e4 ↦ mark e4
                        | inr e4 ↦ absurd (no_fault (faults.BadLetter i) steps (rw (e1, e2, e3, e4) at e))
                      ]
                ]
          ]
    ]

regroup : (front rest : List ℕ) (b : ℕ) → (front ++ b ∷ []) ++ rest ≡ front ++ b ∷ rest
regroup front rest b = append_assoc front (b ∷ []) rest

-- the steps behind a letter that goes on from p
abbrev Spelled : ℕ → ℕ → ℕ → ℕ → List ℕ → Type 0
Spelled m n marks i bs = (q : Prior) (k : ℕ) (front : List ℕ) (ss : List Step) → PriorText m n q front → k ≤ suc marks → read_letters m n k q i bs ≡ Ok ss → SpellsSteps m n (front ++ bs) ss

-- a letter that makes q of p, whose letters are those of the number and this one
pass : (m n marks i : ℕ) (p q : Prior) (front : List ℕ) (b : ℕ) (bs : List ℕ) (steps : List Step) → PriorText m n p front
    → PriorText m n q (digits_in p front ++ b ∷ []) → Spelled m n marks i bs → with_front (pending p) (read_letters m n marks q i bs) ≡ Ok steps
    → SpellsSteps m n (front ++ b ∷ bs) steps
pass m n marks i p q front b bs steps h hq later e =
    let r = front_ok (pending p) (read_letters m n marks q i bs) steps e in
    let behind = later q marks (digits_in p front ++ b ∷ []) r.0 hq (omega arith) r.1 in
    let joined : SpellsSteps m n (digits_in p front ++ b ∷ bs) r.0 = subst (λ (t : List ℕ). SpellsSteps m n t r.0) (regroup (digits_in p front) bs b) behind in
    subst (λ (ss : List Step). SpellsSteps m n (front ++ b ∷ bs) ss) r.2 (flush m n p front (b ∷ bs) r.0 h joined)

spelled_end : (m n marks i : ℕ) (p : Prior) (front : List ℕ) (steps : List Step) → PriorText m n p front → read_letters m n marks p i [] ≡ Ok steps → SpellsSteps m n (front ++ []) steps
spelled_end m n marks i prior.Start front steps h e =
    let is : [] ≡ steps = cc in
    subst (λ (ss : List Step). SpellsSteps m n (front ++ []) ss) is (append-nil front ∙ h)
spelled_end m n marks i prior.Mark front steps h e =
    let is : [] ≡ steps = cc in
    subst (λ (ss : List Step). SpellsSteps m n (front ++ []) ss) is (append-nil front ∙ h)
spelled_end m n marks i (prior.Digits v) front steps h e = absurd (no_fault (faults.UnendedNumber i) steps e)
spelled_end m n marks i (prior.Step w) front steps h e =
    let is : plain w ∷ [] ≡ steps = cc in
    subst (λ (ss : List Step). SpellsSteps m n (front ++ []) ss) is (front, [], refl, record { front = front; what = h; whole = sym (append-nil front) }, refl)

spelled_mark : (m n marks i : ℕ) (p : Prior) (front : List ℕ) (b : ℕ) (bs : List ℕ) (steps : List Step) → PriorText m n p front → eqb b 90 ≡ true
    → Spelled m n marks (suc i) bs → read_letters m n marks p i (b ∷ bs) ≡ Ok steps → SpellsSteps m n (front ++ b ∷ bs) steps
spelled_mark m n marks i prior.Start front b bs steps h eb later e =
    let f = mark_is b eb in absurd (no_fault (faults.MarkAtStart i) steps (rw (f.0, f.1, f.2, eb) at e))
spelled_mark m n marks i prior.Mark front b bs steps h eb later e =
    let f = mark_is b eb in absurd (no_fault (faults.MarkTwice i) steps (rw (f.0, f.1, f.2, eb) at e))
spelled_mark m n marks i (prior.Digits v) front b bs steps h eb later e =
    let f = mark_is b eb in absurd (no_fault (faults.UnendedNumber i) steps (rw (f.0, f.1, f.2, eb) at e))
spelled_mark m n marks i (prior.Step w) front b bs steps h eb later e =
    let f = mark_is b eb in
    let is : b ≡ 90 = eqb-true b 90 eb in
    let r = front_ok (marked w ∷ []) (read_letters m n (suc marks) prior.Mark (suc i) bs) steps (rw (f.0, f.1, f.2, eb) at e) in
    let behind = later prior.Mark (suc marks) [] r.0 refl (omega arith) r.1 in
    let one : SpellsStep m n (front ++ b ∷ []) (marked w) = record { front = front; what = h; whole = ap (λ (x : ℕ). front ++ x ∷ []) is } in
    subst (λ (ss : List Step). SpellsSteps m n (front ++ b ∷ bs) ss) r.2 (front ++ b ∷ [], bs, sym (regroup front bs b), one, behind)

pub spelled_law : (m n marks i : ℕ) (p : Prior) (front letters : List ℕ) (steps : List Step) → PriorText m n p front
    → m + n + marks + length letters < 2 ^ 64 - 1 → read_letters m n marks p i letters ≡ Ok steps → SpellsSteps m n (front ++ letters) steps
spelled_law m n marks i p front [] steps h room e = spelled_end m n marks i p front steps h e
spelled_law m n marks i p front (b ∷ bs) steps h room e =
    let later : Spelled m n marks (suc i) bs = λ q k f ss hq le eq. spelled_law m n k (suc i) q f bs ss hq (omega arith) eq in
    let d = digits_are m n p front h in
    letter_read m n marks i p b bs steps e
    (λ leading read.
    let digits : with_digit p b ≡ capped (5 * d.0 + (b - 84)) = rw d.2 (digit_is d.0 (b - 84)) in
    pass m n marks (suc i) p (prior.Digits (with_digit p b)) front b bs steps h (5 * d.0 + (b - 84), Leads-push 0 (digits_in p front) d.0 b d.1 leading, digits) later read)
    (λ ends small read.
    let value : with_last p b ≡ capped (capped (20 * capped d.0) + (b - 64)) = rw d.2 refl in
    let last = bounds 65 84 b ends in
    let exact : 20 * d.0 + (b - 64) ≡ with_last p b = omega arith in
    let named : SpellsWhat m n (digits_in p front ++ b ∷ []) (what_of m n (with_last p b)) =
    SpellsWhat-what_of m n (20 * d.0 + (b - 64)) (with_last p b) (digits_in p front ++ b ∷ []) exact (omega arith)
    (EndsNumber-Leads 0 (digits_in p front) d.0 b d.1 ends) in
    pass m n marks (suc i) p (prior.Step (what_of m n (with_last p b))) front b bs steps h named later read)
    (λ query ended read.
    let is : b ≡ 63 = eqb-true b 63 query in
    let alone : digits_in p front ++ b ∷ [] ≡ 63 ∷ [] = ap (λ (f : List ℕ). f ++ b ∷ []) (no_digits m n p front h ended) ∙ ap (λ (x : ℕ). x ∷ []) is in
    pass m n marks (suc i) p (prior.Step Unknown) front b bs steps h alone later read)
    (λ mark. spelled_mark m n marks i p front b bs steps h mark later e)

-- ---- each step names what is there

abbrev PriorThere : ℕ → ℕ → ℕ → Prior → Type 0
PriorThere m n marks prior.Start = Unit {0}
PriorThere m n marks prior.Mark = Unit {0}
PriorThere m n marks (prior.Digits v) = Unit {0}
PriorThere m n marks (prior.Step w) = IsInRange m n marks w

flush_there : (m n marks : ℕ) (p : Prior) (ss : List Step) → PriorThere m n marks p → AreInRange m n marks ss → AreInRange m n marks (pending p ++ ss)
flush_there m n marks prior.Start ss h s = s
flush_there m n marks prior.Mark ss h s = s
flush_there m n marks (prior.Digits v) ss h s = s
flush_there m n marks (prior.Step w) ss h s = (h, s)

IsInRange-what_of : (m n marks number : ℕ) → 0 < number → number ≤ m + n + marks → IsInRange m n marks (what_of m n number)
IsInRange-what_of m n marks number positive le =
    elim (cases_Bool (ltb number (m + 1))) [
      | inl e ↦ let low = ltb-true number (m + 1) e in rw e (omega arith)
      | inr e ↦
          let high = ltb-false number (m + 1) e in
          elim (cases_Bool (ltb number (m + n + 1))) [
            | inl e2 ↦ let low = ltb-true number (m + n + 1) e2 in rw (e, e2) (omega arith)
            | inr e2 ↦ let higher = ltb-false number (m + n + 1) e2 in rw (e, e2) (omega arith)
          ]
    ]

abbrev There : ℕ → ℕ → ℕ → ℕ → List ℕ → Type 0
There m n marks i bs = (q : Prior) (k : ℕ) (ss : List Step) → PriorThere m n k q → read_letters m n k q i bs ≡ Ok ss → AreInRange m n k ss

pass_there : (m n marks i : ℕ) (p q : Prior) (bs : List ℕ) (steps : List Step) → PriorThere m n marks p → PriorThere m n marks q
    → There m n marks i bs → with_front (pending p) (read_letters m n marks q i bs) ≡ Ok steps → AreInRange m n marks steps
pass_there m n marks i p q bs steps h hq later e =
    let r = front_ok (pending p) (read_letters m n marks q i bs) steps e in
    subst (λ (ss : List Step). AreInRange m n marks ss) r.2 (flush_there m n marks p r.0 h (later q marks r.0 hq r.1))

there_end : (m n marks i : ℕ) (p : Prior) (steps : List Step) → PriorThere m n marks p → read_letters m n marks p i [] ≡ Ok steps → AreInRange m n marks steps
there_end m n marks i prior.Start steps h e = let is : [] ≡ steps = cc in subst (λ (ss : List Step). AreInRange m n marks ss) is tt
there_end m n marks i prior.Mark steps h e = let is : [] ≡ steps = cc in subst (λ (ss : List Step). AreInRange m n marks ss) is tt
there_end m n marks i (prior.Digits v) steps h e = absurd (no_fault (faults.UnendedNumber i) steps e)
there_end m n marks i (prior.Step w) steps h e = let is : plain w ∷ [] ≡ steps = cc in subst (λ (ss : List Step). AreInRange m n marks ss) is (h, tt)

there_mark : (m n marks i : ℕ) (p : Prior) (b : ℕ) (bs : List ℕ) (steps : List Step) → PriorThere m n marks p → eqb b 90 ≡ true
    → There m n marks (suc i) bs → read_letters m n marks p i (b ∷ bs) ≡ Ok steps → AreInRange m n marks steps
there_mark m n marks i prior.Start b bs steps h eb later e = let f = mark_is b eb in absurd (no_fault (faults.MarkAtStart i) steps (rw (f.0, f.1, f.2, eb) at e))
there_mark m n marks i prior.Mark b bs steps h eb later e = let f = mark_is b eb in absurd (no_fault (faults.MarkTwice i) steps (rw (f.0, f.1, f.2, eb) at e))
there_mark m n marks i (prior.Digits v) b bs steps h eb later e = let f = mark_is b eb in absurd (no_fault (faults.UnendedNumber i) steps (rw (f.0, f.1, f.2, eb) at e))
there_mark m n marks i (prior.Step w) b bs steps h eb later e =
    let f = mark_is b eb in
    let r = front_ok (marked w ∷ []) (read_letters m n (suc marks) prior.Mark (suc i) bs) steps (rw (f.0, f.1, f.2, eb) at e) in
    subst (λ (ss : List Step). AreInRange m n marks ss) r.2 (h, later prior.Mark (suc marks) r.0 tt r.1)

pub there_law : (m n marks i : ℕ) (p : Prior) (letters : List ℕ) (steps : List Step) → PriorThere m n marks p → read_letters m n marks p i letters ≡ Ok steps → AreInRange m n marks steps
there_law m n marks i p [] steps h e = there_end m n marks i p steps h e
there_law m n marks i p (b ∷ bs) steps h e =
    let later : There m n marks (suc i) bs = λ q k ss hq eq. there_law m n k (suc i) q bs ss hq eq in
    letter_read m n marks i p b bs steps e
    (λ leading read. pass_there m n marks (suc i) p (prior.Digits (with_digit p b)) bs steps h tt later read)
    (λ ends small read.
    let last = bounds 65 84 b ends in
    pass_there m n marks (suc i) p (prior.Step (what_of m n (with_last p b))) bs steps h (IsInRange-what_of m n marks (with_last p b) (omega arith) small) later read)
    (λ query ended read. pass_there m n marks (suc i) p (prior.Step Unknown) bs steps h tt later read)
    (λ mark. there_mark m n marks i p b bs steps h mark later e)

-- ---- the whole

ok_none : {X : Type 0} (r : Result X CodeFault) (x : X) → r ≡ Ok x → fault_in r ≡ None
ok_none (Ok y) x e = refl
ok_none (Err f) x e = absurd cc

pub letters_read : (m n : ℕ) (letters : List ℕ) (steps : List Step) → m + n + length letters < 2 ^ 64 - 1
    → read_letters m n 0 prior.Start 0 letters ≡ Ok steps
    → (letter_fault (m + n) letters ≡ None) × SpellsSteps m n letters steps × AreInRange m n 0 steps
letters_read m n letters steps room e = (
  sym (fault_law m n 0 prior.Start [] letters refl refl (omega arith)) ∙ ok_none (read_letters m n 0 prior.Start 0 letters) steps e,
  spelled_law m n 0 0 prior.Start [] letters steps refl (omega arith) e,
  there_law m n 0 0 prior.Start letters steps tt e,
)
