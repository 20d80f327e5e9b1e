-- Each number, and so each list of steps, has one spelling in letters, and what is written is a spelling.
use Rattle.std.proofs.Common.{◌≡◌, ◌≤◌, ◌<◌, ℕ, zero, suc, ◌+◌, ◌-◌, ◌*◌, ◌/◌, ◌%◌, true, leb, List, [], ◌∷◌, ◌++◌, refl, sym, ap, ◌∙◌, arith, subst, append_assoc}
use mathlib.Core.List.{reverse, reverse_aux}
use Rattle.std.proofs.lemmas.Grind.{reverse_onto}
use Rattle.std.proofs.lemmas.Bool.{and_parts, and_from, leb-true, le-leb}
use Rattle.proof_model.specs.declared.code.What.{What}
use Rattle.proof_model.specs.declared.code.What.TheVariants as what
use Rattle.proof_model.specs.ProofCode.{is_last, is_leading, EndsNumber, SpellsWhat, mark, digits, digits_before, number_letters, what_letters, steps_letters}
use Rattle.proof_laws.specs.Spellings.{NumberIsSpelledOnce, NumberIsSpelled, StepsAreSpelledOnce, StepsAreSpelled}

-- the nearest first, these are all leading digits
abbrev AreLeading : List ℕ → Type 0
AreLeading [] = Unit {0}
AreLeading (b ∷ before) = (is_leading b ≡ true) × AreLeading before

leading_between : (b : ℕ) → is_leading b ≡ true → (85 ≤ b) × (b ≤ 89)
leading_between b e = let p = and_parts (leb 85 b) (leb b 89) e in (leb-true 85 b p.0, leb-true b 89 p.1)

last_between : (b : ℕ) → is_last b ≡ true → (65 ≤ b) × (b ≤ 84)
last_between b e = let p = and_parts (leb 65 b) (leb b 84) e in (leb-true 65 b p.0, leb-true b 84 p.1)

-- the digits of a value are the only ones
digits_are : (k : ℕ) (before : List ℕ) → AreLeading before → digits_before before ≤ k → digits k (digits_before before) ≡ reverse before
digits_are zero [] h le = refl
digits_are (suc k) [] h le = refl
digits_are zero (b ∷ before) h le =
    let r = leading_between b h.0 in
    let positive : 5 * digits_before before + (b - 84) ≤ 0 = rw h.0 at le in
    absurd (omega arith)
digits_are (suc k) (b ∷ before) h le =
    let r = leading_between b h.0 in
    let t = digits_before before in
    let bound : 5 * digits_before before + (b - 84) ≤ suc k = rw h.0 at le in
    let value : 5 * digits_before before + (b - 84) ≡ suc (5 * digits_before before + (b - 85)) = omega arith in
    let rest : (5 * digits_before before + (b - 85)) / 5 ≡ digits_before before = omega arith in
    let last : 85 + (5 * digits_before before + (b - 85)) % 5 ≡ b = omega arith in
    rw (h.0, value, rest, last) (rw (digits_are k before h.1 (omega arith)) (sym (reverse_onto before b [])))

-- from the front: the digits before, and then these letters
number_is : (before letters : List ℕ) (n : ℕ) → AreLeading before → EndsNumber (digits_before before) letters n → reverse_aux before letters ≡ number_letters n
number_is before [] n h e = absurd e
number_is before (b ∷ []) n h e =
    let r = last_between b e.0 in
    let t = digits_before before in
    let value : (n - 1) / 20 ≡ digits_before before = omega (arith, e.1) in
    let last : 65 + (n - 1) % 20 ≡ b = omega (arith, e.1) in
    rw (value, last, digits_are (digits_before before) before h (omega arith)) (reverse_onto before b [])
number_is before (b ∷ c ∷ bs) n h e = number_is (b ∷ before) (c ∷ bs) n (e.0, h) (rw e.0 e.1)

pub one_spelling : NumberIsSpelledOnce
one_spelling letters n e = number_is [] letters n tt e

-- ---- steps

what_is : (m n : ℕ) (letters : List ℕ) (w : What) → SpellsWhat m n letters w → letters ≡ what_letters m n w
what_is m n letters (what.Hyp k) h = one_spelling letters (k + 1) h
what_is m n letters (what.Listed k) h = one_spelling letters (m + k + 1) h
what_is m n letters (what.Again k) h = one_spelling letters (m + n + k + 1) h
what_is m n letters what.Unknown h = h

-- steps have one spelling in letters
pub steps_are : StepsAreSpelledOnce
steps_are m n letters [] h = h
steps_are m n letters (s ∷ ss) (front, rest, whole, one, others) =
    whole ∙ ap (λ (t : List ℕ). front ++ t) (steps_are m n rest ss others)
    ∙ ap (λ (t : List ℕ). t ++ steps_letters m n ss) (one.whole ∙ ap (λ (t : List ℕ). t ++ mark s.marked) (what_is m n one.front s.what one.what))

-- ---- what is written is a spelling

leading_digit : (r : ℕ) → r < 5 → is_leading (85 + r) ≡ true
leading_digit r h = and_from (leb 85 (85 + r)) (leb (85 + r) 89) (le-leb 85 (85 + r) (omega arith)) (le-leb (85 + r) 89 (omega arith))

last_digit : (r : ℕ) → r < 20 → is_last (65 + r) ≡ true
last_digit r h = and_from (leb 65 (65 + r)) (leb (65 + r) 84) (le-leb 65 (65 + r) (omega arith)) (le-leb (65 + r) 84 (omega arith))

-- the digits of v, and then letters that go on from v
digits_then : (k v c n : ℕ) (cs : List ℕ) → v ≤ k → EndsNumber v (c ∷ cs) n → EndsNumber 0 (digits k v ++ c ∷ cs) n
digits_then zero v c n cs le h = let none : v ≡ 0 = omega arith in subst (λ (x : ℕ). EndsNumber x (c ∷ cs) n) none h
digits_then (suc k) zero c n cs le h = h
digits_then (suc k) (suc v) c n cs le h =
    let value : suc v ≡ 5 * (v / 5) + (85 + v % 5 - 84) = omega arith in
    let less : v / 5 ≤ k = omega arith in
    let one : EndsNumber (v / 5) ((85 + v % 5) ∷ c ∷ cs) n = (leading_digit (v % 5) (omega arith), subst (λ (x : ℕ). EndsNumber x (c ∷ cs) n) value h) in
    rw append_assoc (digits_then k (v / 5) (85 + v % 5) n (c ∷ cs) less one)

pub spells_number : NumberIsSpelled
spells_number n positive =
    let value : n ≡ 20 * ((n - 1) / 20) + (65 + (n - 1) % 20 - 64) = omega arith in
    digits_then ((n - 1) / 20) ((n - 1) / 20) (65 + (n - 1) % 20) n [] (omega arith) (last_digit ((n - 1) % 20) (omega arith), value)

spells_what : (m n : ℕ) (w : What) → SpellsWhat m n (what_letters m n w) w
spells_what m n (what.Hyp k) = spells_number (k + 1) (omega arith)
spells_what m n (what.Listed k) = spells_number (m + k + 1) (omega arith)
spells_what m n (what.Again k) = spells_number (m + n + k + 1) (omega arith)
spells_what m n what.Unknown = refl

pub spells_steps : StepsAreSpelled
spells_steps m n [] = refl
spells_steps m n (s ∷ ss) = (
  what_letters m n s.what ++ mark s.marked,
  steps_letters m n ss,
  refl,
  record { front = what_letters m n s.what; what = spells_what m n s.what; whole = refl },
  spells_steps m n ss,
)
