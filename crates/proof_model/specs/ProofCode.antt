-- Compressed proofs as texts: numbers in letters, steps, brackets, and the faults (Metamath book, appendix B).
use Rattle.std.specs.Prelude.{◌≡◌, ℕ, zero, suc, ◌+◌, ◌*◌, ◌-◌, ◌/◌, ◌%◌, ◌<◌, Bool, true, false, not, ◌&&◌, ◌||◌, ◌==◌, List, [], ◌∷◌, ◌++◌, length}
use Rattle.std.specs.Prelude.{take, drop, slice_index_or, nat_le, nat_lt, Option, Some, None, if◌then◌else◌, map, reverse, flat_map, codes}
use Rattle.std.specs.List.{list_all, list_any, before_first, after_first, join_with_byte}
use Rattle.std.specs.Str.{bytes_eq}
use Rattle.mm_model.specs.Words.{Word, words, is_white}
use Rattle.mm_model.specs.Faults.{Fault, fault, or_else, first_fault}
use Rattle.mm_model.specs.Names.{contains, has_twice}
use Rattle.mm_model.specs.Statements.{is}
use Rattle.proof_model.specs.declared.code.What.{What}
use Rattle.proof_model.specs.declared.code.What.TheVariants as what
use Rattle.proof_model.specs.declared.code.Step.{Step}
use Rattle.proof_model.specs.declared.code.Code.{Code}

-- ---- numbers

-- `A` to `T` end a number and are worth 1 to 20; `U` to `Y` lead and are worth 1 to 5
abbrev pub is_last : ℕ → Bool
is_last b = nat_le 65 b && nat_le b 84

abbrev pub is_leading : ℕ → Bool
is_leading b = nat_le 85 b && nat_le b 89

-- these letters end a number whose leading digits so far are worth v
abbrev pub EndsNumber : ℕ → List ℕ → ℕ → Type 0
EndsNumber v [] n = ⊥
EndsNumber v (b ∷ []) n = (is_last b ≡ true) × (n ≡ 20 * v + (b - 64))
EndsNumber v (b ∷ c ∷ bs) n = (is_leading b ≡ true) × EndsNumber (5 * v + (b - 84)) (c ∷ bs) n

-- the letters are a spelling of the number
abbrev pub SpellsNumber : List ℕ → ℕ → Type 0
SpellsNumber letters n = EndsNumber 0 letters n

-- ---- steps, with m mandatory hypotheses and n labels

-- these letters name it: 1 to m the mandatory hypotheses, then the labels, then the marked steps
abbrev pub SpellsWhat : ℕ → ℕ → List ℕ → What → Type 0
SpellsWhat m n letters (what.Hyp k) = SpellsNumber letters (k + 1)
SpellsWhat m n letters (what.Listed k) = SpellsNumber letters (m + k + 1)
SpellsWhat m n letters (what.Again k) = SpellsNumber letters (m + n + k + 1)
SpellsWhat m n letters what.Unknown = letters ≡ codes "?"

abbrev pub mark : Bool → List ℕ
mark true = codes "Z"
mark false = []

-- a step is what it names, and a `Z` where it is marked
pub record SpellsStep (m n : ℕ) (letters : List ℕ) (step : Step) : Type 0 where
  pub front : List ℕ
  pub what : SpellsWhat m n front step.what
  pub whole : letters ≡ front ++ mark step.marked

-- the letters are those of the steps, one after another
abbrev pub SpellsSteps : ℕ → ℕ → List ℕ → List Step → Type 0
SpellsSteps m n letters [] = letters ≡ []
SpellsSteps m n letters (s ∷ ss) = (front : List ℕ) × (rest : List ℕ) × (letters ≡ front ++ rest) × SpellsStep m n front s × SpellsSteps m n rest ss

-- what a step names has a number in range: of a mandatory hypothesis, of a label, or of one of the marks so far
abbrev pub IsInRange : ℕ → ℕ → ℕ → What → Type 0
IsInRange m n marks (what.Hyp k) = k < m
IsInRange m n marks (what.Listed k) = k < n
IsInRange m n marks (what.Again k) = k < marks
IsInRange m n marks what.Unknown = Unit {0}

abbrev pub AreInRange : ℕ → ℕ → ℕ → List Step → Type 0
AreInRange m n marks [] = Unit {0}
AreInRange m n marks (s ∷ ss) = IsInRange m n marks s.what × AreInRange m n (if s.marked then suc marks else marks) ss

-- ---- the parts of a text: `(`, labels, `)`, and letters in which white space is passed over

abbrev pub labels_of : List ℕ → List (List ℕ)
labels_of text = map (λ w. w.bytes) (before_first (is (codes ")")) (drop 1 (words text)))

abbrev pub letters_of : List ℕ → List ℕ
letters_of text = flat_map (λ w. w.bytes) (after_first (is (codes ")")) (drop 1 (words text)))

abbrev pub opens_bracket : List Word → Bool
opens_bracket [] = false
opens_bracket (w ∷ ws) = is (codes "(") w && list_any (is (codes ")")) ws

-- the first word is `(`, and some word behind it is `)`
abbrev pub is_bracketed : List ℕ → Bool
is_bracketed text = opens_bracket (words text)

-- the text spells the code
pub record Spells (text : List ℕ) (mandatory : List (List ℕ)) (code : Code) : Type 0 where
  pub bracketed : is_bracketed text ≡ true
  pub labels : code.labels ≡ labels_of text
  pub steps : SpellsSteps (length mandatory) (length code.labels) (letters_of text) code.steps
  pub in_range : AreInRange (length mandatory) (length code.labels) 0 code.steps

-- ---- the faults

-- 7: a label in the brackets that is a mandatory hypothesis; 8: one that stands before in them
abbrev pub label_rules : List (List ℕ) → List (ℕ × (List (List ℕ) → List ℕ → Bool))
label_rules mandatory = (7, λ before l. contains mandatory l) ∷ (8, λ before l. contains before l) ∷ []

-- what the leading digits just before a letter are worth; the letters before are the nearest first
abbrev pub digits_before : List ℕ → ℕ
digits_before [] = 0
digits_before (b ∷ before) = if is_leading b then 5 * digits_before before + (b - 84) else 0

-- the number that a last letter ends
abbrev pub number_at : List ℕ → ℕ → ℕ
number_at before b = 20 * digits_before before + (b - 64)

abbrev pub marks_before : List ℕ → ℕ
marks_before [] = 0
marks_before (b ∷ before) = if b == 90 then suc (marks_before before) else marks_before before

abbrev pub just_after : (ℕ → Bool) → List ℕ → Bool
just_after test [] = false
just_after test (b ∷ before) = test b

-- 1: a byte other than `A` to `Z` and `?`
abbrev pub bad_letter : List ℕ → ℕ → Bool
bad_letter before b = not (nat_le 65 b && nat_le b 90) && not (b == 63)

-- 2: at its last letter, a number above the count of the hypotheses and labels and of the marks so far
abbrev pub number_too_large : ℕ → List ℕ → ℕ → Bool
number_too_large known before b = is_last b && nat_lt (known + marks_before before) (number_at before b)

-- 3: `Z` before any step
abbrev pub mark_at_start : List ℕ → ℕ → Bool
mark_at_start before b = (b == 90) && not (list_any (λ c. is_last c || c == 63) before)

-- 4: `Z` just after a `Z`
abbrev pub mark_twice : List ℕ → ℕ → Bool
mark_twice before b = (b == 90) && just_after (λ c. c == 90) before

-- 5: `Z` or `?` just after a letter `U` to `Y`
abbrev pub unended_number : List ℕ → ℕ → Bool
unended_number before b = (b == 90 || b == 63) && just_after is_leading before

-- at one letter 5 comes before 3 and 4
abbrev pub letter_rules : ℕ → List (ℕ × (List ℕ → ℕ → Bool))
letter_rules known = (1, bad_letter) ∷ (2, number_too_large known) ∷ (5, unended_number) ∷ (3, mark_at_start) ∷ (4, mark_twice) ∷ []

abbrev pub index : {X : Type 0} → List X → X → ℕ
index before x = length before

-- behind the last letter: 5 where a number is not ended
abbrev pub letters_end : List ℕ → Option Fault
letters_end before = if just_after is_leading before then Some (fault (length before) 5) else None

abbrev pub letter_fault : ℕ → List ℕ → Option Fault
letter_fault known letters = or_else (first_fault index (letter_rules known) [] letters) (letters_end (reverse letters))

abbrev pub label_fault : List (List ℕ) → List (List ℕ) → Option Fault
label_fault mandatory labels = first_fault index (label_rules mandatory) [] labels

-- 6: no brackets; then the labels, by their number in the brackets; then the letters, by their number behind them
abbrev pub code_fault : List ℕ → List (List ℕ) → Option Fault
code_fault text mandatory =
    if is_bracketed text then or_else (label_fault mandatory (labels_of text)) (letter_fault (length mandatory + length (labels_of text)) (letters_of text))
    else Some (fault 0 6)

-- what is told of a fault: the label of 7 and 8, and the number of 2
abbrev pub label_told : List ℕ → ℕ → List ℕ
label_told text i = slice_index_or (labels_of text) i []

abbrev pub number_told : List ℕ → ℕ → ℕ
number_told text i = number_at (reverse (take i (letters_of text))) (slice_index_or (letters_of text) i 0)

-- ---- the one text that is written

-- the digits of v, each worth 1 to 5 in base 5, at most k of them; v has at most v
abbrev pub digits : ℕ → ℕ → List ℕ
digits zero v = []
digits (suc k) zero = []
digits (suc k) (suc v) = digits k (v / 5) ++ (85 + v % 5) ∷ []

-- the letters of a number from 1
abbrev pub number_letters : ℕ → List ℕ
number_letters n = digits ((n - 1) / 20) ((n - 1) / 20) ++ (65 + (n - 1) % 20) ∷ []

abbrev pub what_letters : ℕ → ℕ → What → List ℕ
what_letters m n (what.Hyp k) = number_letters (k + 1)
what_letters m n (what.Listed k) = number_letters (m + k + 1)
what_letters m n (what.Again k) = number_letters (m + n + k + 1)
what_letters m n what.Unknown = codes "?"

abbrev pub step_letters : ℕ → ℕ → Step → List ℕ
step_letters m n s = what_letters m n s.what ++ mark s.marked

abbrev pub steps_letters : ℕ → ℕ → List Step → List ℕ
steps_letters m n steps = flat_map (step_letters m n) steps

-- the text of a code with m mandatory hypotheses: `(`, the labels, `)` and the letters in one run, parted by one space
abbrev pub spelled : ℕ → Code → List ℕ
spelled m code = join_with_byte 32 (codes "(" ∷ code.labels ++ codes ")" ∷ steps_letters m (length code.labels) code.steps ∷ [])

-- a label that can stand in the brackets: it has bytes, none of white space, and is not `)`
abbrev pub is_listable : List ℕ → Bool
is_listable label = not (length label == 0) && list_all (λ b. not (is_white b)) label && not (bytes_eq label (codes ")"))

-- a code that can be written with m mandatory hypotheses
pub record IsWritable (m : ℕ) (code : Code) : Type 0 where
  pub labels : list_all is_listable code.labels ≡ true
  pub differ : has_twice code.labels ≡ false
  pub in_range : AreInRange m (length code.labels) 0 code.steps
