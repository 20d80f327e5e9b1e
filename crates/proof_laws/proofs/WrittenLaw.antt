-- The text of a code spells it and has no fault.
use Rattle.std.proofs.Common.{◌≡◌, ◌≤◌, ℕ, ◌+◌, ◌-◌, ◌*◌, Bool, true, false, not, ◌||◌, ◌&&◌, eqb, List, [], ◌∷◌, ◌++◌, length, Option, Some, None}
use Rattle.std.proofs.Common.{option_map, refl, sym, ap, ◌∙◌, arith, subst, append_assoc}
use Rattle.std.specs.Prelude.{codes}
use Rattle.std.specs.List.{list_all, list_any, join_with_byte, AllByRecursion}
use Rattle.std.specs.Str.{bytes_eq}
use Rattle.std.proofs.lemmas.Bool.{and_parts, or_parts, false_from_ne_true}
use Rattle.std.proofs.lemmas.Bool.Decides.{nat_tests}
use Rattle.std.proofs.lemmas.Slice.Eq.{bytes_eq-Decides}
use Rattle.mm_model.specs.Faults.{Fault, fault, or_else, first_code, first_fault}
use Rattle.mm_model.specs.Names.{contains, has_twice}
use Rattle.mm_model.specs.Words.{words, is_white}
use Rattle.proof_model.specs.declared.code.What.{What}
use Rattle.proof_model.specs.declared.code.What.TheVariants as what
use Rattle.proof_model.specs.declared.code.Step.{Step}
use Rattle.proof_model.specs.declared.code.Code.{Code}
use Rattle.proof_model.specs.ProofCode.{is_last, is_leading, EndsNumber, SpellsWhat, SpellsSteps, mark, index, label_rules, label_fault, letter_fault}
use Rattle.proof_model.specs.ProofCode.{labels_of, letters_of, is_bracketed, steps_letters, spelled, is_listable, IsWritable}
use Rattle.proof_laws.specs.WrittenCode.{WrittenSpells, WrittenIsSound}
use Rattle.proof_laws.proofs.LetterLaws.{skip, cond_then, letters_sound}
use Rattle.proof_laws.proofs.NumberLaws.{spells_steps}
use Rattle.proof_laws.proofs.TextLaws.{texts, IsInk, IsToken, IsNoClose, HasWords, last_word, joined_texts, bracketed_is, labels_are, letters_are}

-- ---- letters have no white space

ink : (b : ℕ) → 63 ≤ b → is_white b ≡ false
ink b h = grind (arith, nat_tests)

last_ink : (b : ℕ) → is_last b ≡ true → IsInk b
last_ink b e = grind (arith, nat_tests)

leading_ink : (b : ℕ) → is_leading b ≡ true → IsInk b
leading_ink b e = grind (arith, nat_tests)

ink_append : (xs ys : List ℕ) → AllByRecursion IsInk xs → AllByRecursion IsInk ys → AllByRecursion IsInk (xs ++ ys)
ink_append [] ys h k = k
ink_append (x ∷ xs) ys h k = (h.0, ink_append xs ys h.1 k)

number_ink : (v n : ℕ) (letters : List ℕ) → EndsNumber v letters n → AllByRecursion IsInk letters
number_ink v n [] h = absurd h
number_ink v n (b ∷ []) h = (last_ink b h.0, tt)
number_ink v n (b ∷ c ∷ bs) h = (leading_ink b h.0, number_ink (5 * v + (b - 84)) n (c ∷ bs) h.1)

what_ink : (m n : ℕ) (letters : List ℕ) (w : What) → SpellsWhat m n letters w → AllByRecursion IsInk letters
what_ink m n letters (what.Hyp k) s = number_ink 0 (k + 1) letters s
what_ink m n letters (what.Listed k) s = number_ink 0 (m + k + 1) letters s
what_ink m n letters (what.Again k) s = number_ink 0 (m + n + k + 1) letters s
what_ink m n letters what.Unknown s = subst (AllByRecursion IsInk) (sym s) (refl, tt)

mark_ink : (marked : Bool) → AllByRecursion IsInk (mark marked)
mark_ink true = (refl, tt)
mark_ink false = tt

pub letters_ink : (m n : ℕ) (letters : List ℕ) (steps : List Step) → SpellsSteps m n letters steps → AllByRecursion IsInk letters
letters_ink m n letters [] s = subst (AllByRecursion IsInk) (sym s) tt
letters_ink m n letters (x ∷ xs) (front, rest, whole, one, others) =
    let here : AllByRecursion IsInk front = subst (AllByRecursion IsInk) (sym one.whole) (ink_append one.front (mark x.marked) (what_ink m n one.front x.what one.what) (mark_ink x.marked)) in
    subst (AllByRecursion IsInk) (sym whole) (ink_append front rest here (letters_ink m n rest xs others))

-- ---- labels that can stand in the brackets

not_true : (b : Bool) → not b ≡ true → b ≡ false
not_true true e = absurd (cc)
not_true false e = refl

bytes_ink : (bytes : List ℕ) → list_all (λ b. not (is_white b)) bytes ≡ true → AllByRecursion IsInk bytes
bytes_ink [] e = tt
bytes_ink (b ∷ bs) e = let p = and_parts (not (is_white b)) (list_all (λ c. not (is_white c)) bs) e in (not_true (is_white b) p.0, bytes_ink bs p.1)

listable_token : (l : List ℕ) → is_listable l ≡ true → IsToken l
listable_token [] e = absurd (cc)
listable_token (b ∷ bs) e =
    let p = and_parts (not (eqb (length (b ∷ bs)) 0) && list_all (λ c. not (is_white c)) (b ∷ bs)) (not (bytes_eq (b ∷ bs) (codes ")"))) e in
    let q = and_parts (not (eqb (length (b ∷ bs)) 0)) (list_all (λ c. not (is_white c)) (b ∷ bs)) p.0 in
    bytes_ink (b ∷ bs) q.1

listable_shut : (l : List ℕ) → is_listable l ≡ true → IsNoClose l
listable_shut l e =
    let p = and_parts (not (eqb (length l) 0) && list_all (λ b. not (is_white b)) l) (not (bytes_eq l (codes ")"))) e in
    not_true (bytes_eq l (codes ")")) p.1

all_from : (P : List ℕ → Type 0) (test : List ℕ → Bool) (ls : List (List ℕ)) → ((l : List ℕ) → test l ≡ true → P l) → list_all test ls ≡ true → AllByRecursion P ls
all_from P test [] h e = tt
all_from P test (l ∷ ls) h e = let p = and_parts (test l) (list_all test ls) e in (h l p.0, all_from P test ls h p.1)

tokens_append : (xs ys : List (List ℕ)) → AllByRecursion IsToken xs → AllByRecursion IsToken ys → AllByRecursion IsToken (xs ++ ys)
tokens_append [] ys h k = k
tokens_append (x ∷ xs) ys h k = (h.0, tokens_append xs ys h.1 k)

-- the words of a written code
has_words : (m : ℕ) (code : Code) → IsWritable m code → HasWords (spelled m code) code.labels (steps_letters m (length code.labels) code.steps)
has_words m code h =
    let letters = steps_letters m (length code.labels) code.steps in
    let front : List (List ℕ) = codes "(" ∷ (code.labels ++ codes ")" ∷ []) in
    let tokens : AllByRecursion IsToken front = ((refl, tt), tokens_append code.labels (codes ")" ∷ []) (all_from IsToken is_listable code.labels listable_token h.labels) ((refl, tt), tt)) in
    let inked = letters_ink m (length code.labels) letters code.steps (spells_steps m (length code.labels) code.steps) in
    let whole : spelled m code ≡ join_with_byte 32 (front ++ letters ∷ []) =
    ap (λ (ts : List (List ℕ)). join_with_byte 32 (codes "(" ∷ ts)) (sym (append_assoc code.labels (codes ")" ∷ []) (letters ∷ []))) in
    ap (λ (t : List ℕ). texts (words t)) whole ∙ joined_texts 0 front letters tokens inked
    ∙ ap (λ (ts : List (List ℕ)). codes "(" ∷ ts) (append_assoc code.labels (codes ")" ∷ []) (last_word letters))

pub written_spells : WrittenSpells
written_spells mandatory code h =
    let m = length mandatory in
    let letters = steps_letters m (length code.labels) code.steps in
    let shut = all_from IsNoClose is_listable code.labels listable_shut h.labels in
    let words' = has_words m code h in
    record {
      bracketed = bracketed_is (spelled m code) code.labels letters words';
      labels = sym (labels_are (spelled m code) code.labels letters shut words');
      steps =
          subst (λ (ls : List ℕ). SpellsSteps m (length code.labels) ls code.steps)
          (sym (letters_are (spelled m code) code.labels letters shut words')) (spells_steps m (length code.labels) code.steps);
      in_range = h.in_range;
    }

-- ---- no fault of the labels

-- a label is not among those before
abbrev IsNew : List (List ℕ) → List ℕ → Type 0
IsNew before l = contains before l ≡ false

other_way : (a b : List ℕ) → bytes_eq a b ≡ false → bytes_eq b a ≡ false
other_way a b e = false_from_ne_true (bytes_eq b a) (λ h. let same : bytes_eq a b ≡ true = (bytes_eq-Decides a b).1 (sym ((bytes_eq-Decides b a).0 h)) in absurd (cc))

new_after : (n : List ℕ) (before ls : List (List ℕ)) → contains ls n ≡ false → AllByRecursion (IsNew before) ls → AllByRecursion (IsNew (n ∷ before)) ls
new_after n before [] e h = tt
new_after n before (l ∷ ls) e h =
    let p = or_parts (bytes_eq n l) (contains ls n) e in
    let here : (bytes_eq l n || contains before l) ≡ false = rw (other_way n l p.0, h.0) refl in
    (here, new_after n before ls p.1 h.1)

labels_from : (mandatory before ls : List (List ℕ)) → list_any (contains mandatory) ls ≡ false → has_twice ls ≡ false → AllByRecursion (IsNew before) ls
    → first_fault index (label_rules mandatory) before ls ≡ None
labels_from mandatory before [] a t h = refl
labels_from mandatory before (l ∷ ls) a t h =
    let p = or_parts (contains mandatory l) (list_any (contains mandatory) ls) a in
    let q = or_parts (contains ls l) (has_twice ls) t in
    let none : first_code (label_rules mandatory) before l ≡ None =
    skip 7 (λ b k. contains mandatory k) ((8, λ b k. contains b k) ∷ []) before l p.0 ∙ skip 8 (λ b k. contains b k) [] before l h.0 in
    ap (λ (o : Option ℕ). or_else (option_map (λ (c : ℕ). fault (length before) c) o) (first_fault index (label_rules mandatory) (l ∷ before) ls)) none
    ∙ labels_from mandatory (l ∷ before) ls p.1 q.1 (new_after l before ls q.0 h.1)

all_new : (ls : List (List ℕ)) → AllByRecursion (IsNew []) ls
all_new [] = tt
all_new (l ∷ ls) = (refl, all_new ls)

pub written_sound : WrittenIsSound
written_sound mandatory code h a =
    let m = length mandatory in
    let text = spelled m code in
    let letters = steps_letters m (length code.labels) code.steps in
    let shut = all_from IsNoClose is_listable code.labels listable_shut h.labels in
    let words' = has_words m code h in
    let labels : labels_of text ≡ code.labels = labels_are text code.labels letters shut words' in
    let letters' : letters_of text ≡ letters = letters_are text code.labels letters shut words' in
    let no_label : label_fault mandatory code.labels ≡ None = labels_from mandatory [] code.labels a h.differ (all_new code.labels) in
    let no_letter : letter_fault (m + length code.labels) letters ≡ None = letters_sound m (length code.labels) letters code.steps (spells_steps m (length code.labels) code.steps) h.in_range in
    cond_then (is_bracketed text) (or_else (label_fault mandatory (labels_of text)) (letter_fault (m + length (labels_of text)) (letters_of text)))
    (Some (fault 0 6)) (bracketed_is text code.labels letters words')
    ∙ ap (λ (ls : List (List ℕ)). or_else (label_fault mandatory ls) (letter_fault (m + length ls) (letters_of text))) labels
    ∙ ap (λ (ls : List ℕ). or_else (label_fault mandatory code.labels) (letter_fault (m + length code.labels) ls)) letters'
    ∙ ap (λ (o : Option Fault). or_else o (letter_fault (m + length code.labels) letters)) no_label ∙ no_letter
