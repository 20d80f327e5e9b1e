-- No part of a worksheet's text is longer than the text, and it has no more steps than bytes.
use Rattle.std.specs.Prelude.{◌≡◌, ◌≤◌, ℕ, suc, Bool, true, false, not, List, [], ◌∷◌, ◌++◌, length, map, filter, filter_map, take_while, Option, Some, None, refl}
use Rattle.std.specs.Bool.{then_some}
use Rattle.std.specs.List.{AllByRecursion, slice_split, onto_first}
use Rattle.std.proofs.Common.{sym, ap, subst, cond, eqb, arith}
use Rattle.std.proofs.lemmas.List.{length-map}
use Rattle.std.proofs.lemmas.List.Sums.{take_while-cons}
use Rattle.mm_model.specs.Words.{Word, is_white, word, put_before, words_from, words}
use Rattle.sheet_text.specs.declared.sheet.SheetStep.{SheetStep}
use Rattle.sheet_text.specs.declared.sheet.Sheet.{Sheet}
use Rattle.sheet_text.specs.Forms.{Header, StepForm, header_of, marked_name, entry_of, parts_of, step_with, step_parts, step_of}
use Rattle.sheet_text.specs.Layout.{steps, step_of_item}
use Rattle.sheet_text.specs.Lines.{Line, lines, before_trimmed, trim_end, numbered_from, is_blank, lines_not_blank, begins, tokens, tokens_of}
use Rattle.sheet_text.specs.Reads.{given_of, items_at, items_from, comment_of, sheet_with, sheet_in}
use Rattle.sheet_text.specs.SheetStatements.{Statement, statement, statements_where, statements, opens_proof, ends_proof, line_of, tokens_in, is_footer, is_comment}
use Rattle.sheet_text.specs.TextFaults.{step_in}

-- ---- lists of short parts

abbrev Short : ℕ → List ℕ → Type 0
Short n bs = length bs ≤ n

abbrev AreShort : ℕ → List (List ℕ) → Type 0
AreShort n xs = AllByRecursion (Short n) xs

up : (m n : ℕ) → m ≤ n → (xs : List (List ℕ)) → AreShort m xs → AreShort n xs
up m n l [] h = tt
up m n l (x ∷ xs) h = let one = h.0 in (omega (arith, one, l), up m n l xs h.1)

onto_short : (n b : ℕ) (xs : List (List ℕ)) → AreShort n xs → AreShort (suc n) (onto_first b xs)
onto_short n b [] h = (omega arith, tt)
onto_short n b (x ∷ xs) h = let one = h.0 in (omega (arith, one), up n (suc n) (omega arith) xs h.1)

onto_few : (n b : ℕ) (xs : List (List ℕ)) → length xs ≤ n → length (onto_first b xs) ≤ suc n
onto_few n b [] h = omega arith
onto_few n b (x ∷ xs) h = omega (arith, h)

all_append : {X : Type 0} (P : X → Type 0) (xs ys : List X) → AllByRecursion P xs → AllByRecursion P ys → AllByRecursion P (xs ++ ys)
all_append P [] ys h k = k
all_append P (x ∷ xs) ys h k = (h.0, all_append P xs ys h.1 k)

all_filter : {X : Type 0} (P : X → Type 0) (p : X → Bool) (xs : List X) → AllByRecursion P xs → AllByRecursion P (filter p xs)
all_filter P p [] h = tt
all_filter P p (x ∷ xs) h =
    let rest = all_filter P p xs h.1 in
    elim (p x) as (λ b. AllByRecursion P (cond b (x ∷ filter p xs) (filter p xs))) [ true ↦ (h.0, rest) | false ↦ rest ]

few_filter : {X : Type 0} (p : X → Bool) (xs : List X) → length (filter p xs) ≤ length xs
few_filter p [] = omega arith
few_filter p (x ∷ xs) =
    let rest = few_filter p xs in
    elim (p x) as (λ b. length (cond b (x ∷ filter p xs) (filter p xs)) ≤ suc (length xs)) [ true ↦ omega (arith, rest) | false ↦ omega (arith, rest) ]

all_taken : {X : Type 0} (P : X → Type 0) (p : X → Bool) (xs : List X) → AllByRecursion P xs → AllByRecursion P (take_while p xs)
all_taken P p [] h = tt
all_taken P p (x ∷ xs) h =
    let rest = all_taken P p xs h.1 in
    subst (AllByRecursion P) (sym (take_while-cons p x xs))
    (elim (p x) as (λ b. AllByRecursion P (cond b (x ∷ take_while p xs) [])) [ true ↦ (h.0, rest) | false ↦ tt ])

few_taken : {X : Type 0} (p : X → Bool) (xs : List X) → length (take_while p xs) ≤ length xs
few_taken p [] = omega arith
few_taken p (x ∷ xs) =
    let rest = few_taken p xs in
    subst (λ ys. length ys ≤ suc (length xs)) (sym (take_while-cons p x xs))
    (elim (p x) as (λ b. length (cond b (x ∷ take_while p xs) []) ≤ suc (length xs)) [ true ↦ omega (arith, rest) | false ↦ omega arith ])

-- ---- lines

lines_short : (bs : List ℕ) → AreShort (length bs) (lines bs)
lines_short [] = tt
lines_short (b ∷ bs) =
    let rest = lines_short bs in
    elim (eqb b 10) as (λ t. AreShort (suc (length bs)) (cond t ([] ∷ lines bs) (onto_first b (lines bs)))) [
      | true ↦ (omega arith, up (length bs) (suc (length bs)) (omega arith) (lines bs) rest)
      | false ↦ onto_short (length bs) b (lines bs) rest
    ]

lines_few : (bs : List ℕ) → length (lines bs) ≤ length bs
lines_few [] = omega arith
lines_few (b ∷ bs) =
    let rest = lines_few bs in
    elim (eqb b 10) as (λ t. length (cond t ([] ∷ lines bs) (onto_first b (lines bs))) ≤ suc (length bs)) [
      | true ↦ omega (arith, rest)
      | false ↦ onto_few (length bs) b (lines bs) rest
    ]

before_short : (b : ℕ) (cs : List ℕ) → length (before_trimmed b cs) ≤ suc (length cs)
before_short b [] = elim (is_white b) as (λ t. length (cond t [] (b ∷ [])) ≤ 1) [ true ↦ omega arith | false ↦ omega arith ]
before_short b (c ∷ cs) = omega arith

trimmed_short : (bs : List ℕ) → length (trim_end bs) ≤ length bs
trimmed_short [] = omega arith
trimmed_short (b ∷ bs) = let rest = trimmed_short bs in let one = before_short b (trim_end bs) in omega (arith, rest, one)

abbrev ShortLine : ℕ → Line → Type 0
ShortLine n l = Short n l.bytes

numbered_short : (n k : ℕ) (xs : List (List ℕ)) → AreShort n xs → AllByRecursion (ShortLine n) (numbered_from k xs)
numbered_short n k [] h = tt
numbered_short n k (x ∷ xs) h = let one = h.0 in let cut = trimmed_short x in (omega (arith, one, cut), numbered_short n (suc k) xs h.1)

numbered_few : (k : ℕ) (xs : List (List ℕ)) → length (numbered_from k xs) ≡ length xs
numbered_few k [] = refl
numbered_few k (x ∷ xs) = ap suc (numbered_few (suc k) xs)

-- ---- statements

record ShortStatement (n : ℕ) (s : Statement) : Type 0 where
  opening : ShortLine n s.opening
  more : AllByRecursion (ShortLine n) s.more

statements_short : (n : ℕ) (b : Bool) (ls : List Line) → AllByRecursion (ShortLine n) ls → AllByRecursion (ShortStatement n) (statements_where b ls)
statements_short n b [] h = tt
statements_short n true (l ∷ ls) h = statements_short n (not (ends_proof l)) ls h.1
statements_short n false (l ∷ ls) h =
    let proof = statements_short n (not (ends_proof l)) ls h.1 in
    let plain = statements_short n false ls h.1 in
    let taken = all_taken (ShortLine n) (λ m. not (begins m)) ls h.1 in
    elim (opens_proof l) as (λ t. AllByRecursion (ShortStatement n) (cond t (statement l [] ∷ statements_where (not (ends_proof l)) ls)
    (cond (begins l) (statement l (take_while (λ m. not (begins m)) ls) ∷ statements_where false ls) (statements_where false ls)))) [
      | true ↦ (record { opening = h.0; more = tt }, proof)
      | false ↦ elim (begins l) as (λ t. AllByRecursion (ShortStatement n) (cond t (statement l (take_while (λ m. not (begins m)) ls) ∷ statements_where false ls) (statements_where false ls))) [
        | true ↦ (record { opening = h.0; more = taken }, plain)
        | false ↦ plain
      ]
    ]

statements_few : (b : Bool) (ls : List Line) → length (statements_where b ls) ≤ length ls
statements_few b [] = omega arith
statements_few true (l ∷ ls) = let rest = statements_few (not (ends_proof l)) ls in omega (arith, rest)
statements_few false (l ∷ ls) =
    let proof = statements_few (not (ends_proof l)) ls in
    let plain = statements_few false ls in
    elim (opens_proof l) as (λ t. length (cond t (statement l [] ∷ statements_where (not (ends_proof l)) ls)
    (cond (begins l) (statement l (take_while (λ m. not (begins m)) ls) ∷ statements_where false ls) (statements_where false ls))) ≤ suc (length ls)) [
      | true ↦ omega (arith, proof)
      | false ↦ elim (begins l) as (λ t. length (cond t (statement l (take_while (λ m. not (begins m)) ls) ∷ statements_where false ls) (statements_where false ls)) ≤ suc (length ls)) [
        | true ↦ omega (arith, plain)
        | false ↦ omega (arith, plain)
      ]
    ]

-- ---- tokens

abbrev ShortWord : ℕ → Word → Type 0
ShortWord n w = Short n w.bytes

up_words : (m n : ℕ) → m ≤ n → (ws : List Word) → AllByRecursion (ShortWord m) ws → AllByRecursion (ShortWord n) ws
up_words m n l [] h = tt
up_words m n l (w ∷ ws) h = let one = h.0 in (omega (arith, one, l), up_words m n l ws h.1)

put_short : (n at b : ℕ) (ws : List Word) → AllByRecursion (ShortWord n) ws → AllByRecursion (ShortWord (suc n)) (put_before at b ws)
put_short n at b [] h = (omega arith, tt)
put_short n at b (w ∷ ws) h =
    let one = h.0 in
    let rest = up_words n (suc n) (omega arith) ws h.1 in
    elim (eqb w.start (suc at)) as (λ t. AllByRecursion (ShortWord (suc n)) (cond t (word at (b ∷ w.bytes) ∷ ws) (word at (b ∷ []) ∷ w ∷ ws))) [
      | true ↦ (omega (arith, one), rest)
      | false ↦ (omega arith, (omega (arith, one), rest))
    ]

words_short : (at : ℕ) (bs : List ℕ) → AllByRecursion (ShortWord (length bs)) (words_from at bs)
words_short at [] = tt
words_short at (b ∷ bs) =
    let rest = words_short (suc at) bs in
    elim (is_white b) as (λ t. AllByRecursion (ShortWord (suc (length bs))) (cond t (words_from (suc at) bs) (put_before at b (words_from (suc at) bs)))) [
      | true ↦ up_words (length bs) (suc (length bs)) (omega arith) (words_from (suc at) bs) rest
      | false ↦ put_short (length bs) at b (words_from (suc at) bs) rest
    ]

bytes_short : (n : ℕ) (ws : List Word) → AllByRecursion (ShortWord n) ws → AreShort n (map (λ w. w.bytes) ws)
bytes_short n [] h = tt
bytes_short n (w ∷ ws) h = (h.0, bytes_short n ws h.1)

tokens_short : (n : ℕ) (l : Line) → ShortLine n l → AreShort n (tokens l)
tokens_short n l h = bytes_short n (words l.bytes) (up_words (length l.bytes) n h (words l.bytes) (words_short 0 l.bytes))

all_tokens : (n : ℕ) (ls : List Line) → AllByRecursion (ShortLine n) ls → AreShort n (tokens_of ls)
all_tokens n [] h = tt
all_tokens n (l ∷ ls) h = all_append (Short n) (tokens l) (tokens_of ls) (tokens_short n l h.0) (all_tokens n ls h.1)

-- ---- steps

split_short : (p : ℕ → Bool) (bs : List ℕ) → AreShort (length bs) (slice_split p bs)
split_short p [] = (omega arith, tt)
split_short p (b ∷ bs) =
    let rest = split_short p bs in
    elim (p b) as (λ t. AreShort (suc (length bs)) (cond t ([] ∷ slice_split p bs) (onto_first b (slice_split p bs)))) [
      | true ↦ (omega arith, up (length bs) (suc (length bs)) (omega arith) (slice_split p bs) rest)
      | false ↦ onto_short (length bs) b (slice_split p bs) rest
    ]

split_few : (p : ℕ → Bool) (bs : List ℕ) → length (slice_split p bs) ≤ suc (length bs)
split_few p [] = omega arith
split_few p (b ∷ bs) =
    let rest = split_few p bs in
    elim (p b) as (λ t. length (cond t ([] ∷ slice_split p bs) (onto_first b (slice_split p bs))) ≤ suc (suc (length bs))) [
      | true ↦ omega (arith, rest)
      | false ↦ onto_few (suc (length bs)) b (slice_split p bs) rest
    ]

parts_few : (bs : List ℕ) → length (parts_of bs) ≤ suc (length bs)
parts_few [] = omega arith
parts_few (b ∷ bs) = split_few (λ c. eqb c 44) (b ∷ bs)

-- a form of a step with no more places than so many and one
abbrev FewEntries : ℕ → Option StepForm → Type 0
FewEntries n None = Unit {0}
FewEntries n (Some f) = length f.entries ≤ suc n

then_few : (n : ℕ) (b : Bool) (f : StepForm) → length f.entries ≤ suc n → FewEntries n (then_some b f)
then_few n true f h = h
then_few n false f h = tt

with_few : (n : ℕ) (hyp : Bool) (name : List ℕ) (places reference : List ℕ) (formula : List (List ℕ)) → Short n places → FewEntries n (step_with hyp name (parts_of places) reference formula)
with_few n hyp name places reference formula h =
    let same = length-map (parts_of places) entry_of in
    let few = parts_few places in
    then_few n _ _ (omega (arith, same, few, h))

parts_form : (n : ℕ) (ps : List (List ℕ)) (formula : List (List ℕ)) → AreShort n ps → FewEntries n (step_parts ps formula)
parts_form n [] formula h = tt
parts_form n (a ∷ []) formula h = tt
parts_form n (a ∷ b ∷ []) formula h = tt
parts_form n (a ∷ b ∷ c ∷ []) formula h = with_few n (marked_name a).0 (marked_name a).1 b c formula h.1.0
parts_form n (a ∷ b ∷ c ∷ d ∷ ds) formula h = tt

step_form : (n : ℕ) (ts : List (List ℕ)) → AreShort n ts → FewEntries n (step_of ts)
step_form n [] h = tt
step_form n (t ∷ ts) h = parts_form n (slice_split (λ c. eqb c 58) t) ts (up (length t) n h.0 (slice_split (λ c. eqb c 58) t) (split_short (λ c. eqb c 58) t))

form_in : (n : ℕ) (s : Statement) → ShortStatement n s → FewEntries n (step_in s)
form_in n s h =
    let form = step_form n (tokens_in s) (all_tokens n (s.opening ∷ s.more) (h.opening, h.more)) in
    elim (is_comment s) as (λ b. FewEntries n (cond b None (step_of (tokens_in s)))) [ true ↦ tt | false ↦ form ]

abbrev pub FewPlaces : ℕ → SheetStep → Type 0
FewPlaces n t = length t.places ≤ suc n

-- steps with few places, and no more of them than so many
pub record AreFew (n m : ℕ) (ts : List SheetStep) : Type 0 where
  pub places : AllByRecursion (FewPlaces n) ts
  pub few : length ts ≤ m

more_few : (n m : ℕ) (ts : List SheetStep) → AreFew n m ts → AreFew n (suc m) ts
more_few n m ts h = let few = h.few in record { places = h.places; few = omega (arith, few) }

one_more : (n m : ℕ) (t : SheetStep) (ts : List SheetStep) → FewPlaces n t → AreFew n m ts → AreFew n (suc m) (t ∷ ts)
one_more n m t ts k h = let few = h.few in record { places = (k, h.places); few = omega (arith, few) }

items_few : (n : ℕ) (ss : List Statement) (names : List (List ℕ)) → AllByRecursion (ShortStatement n) ss → AreFew n (length ss) (filter_map step_of_item (items_from ss names))
items_few n [] names h = record { places = tt; few = omega arith }
items_few n (s ∷ ss) names h = by (step_in s) (form_in n s h.0) (λ ns. items_few n ss ns h.1)
  where
    by : (o : Option StepForm) → FewEntries n o → ((ns : List (List ℕ)) → AreFew n (length ss) (filter_map step_of_item (items_from ss ns)))
        → AreFew n (suc (length ss)) (filter_map step_of_item (items_at names s o (items_from ss)))
    by None k rest =
        let here = more_few n (length ss) (filter_map step_of_item (items_from ss names)) (rest names) in
        elim (is_comment s) as (λ b. AreFew n (suc (length ss)) (filter_map step_of_item (cond b (comment_of s ∷ items_from ss names) (items_from ss names)))) [ true ↦ here | false ↦ here ]
    by (Some f) k rest =
        let same = length-map f.entries (given_of names) in
        one_more n (length ss) _ _ (omega (arith, same, k)) (rest (names ++ f.name ∷ []))

sheet_few : (n m : ℕ) (ss : List Statement) (s : Sheet) → AllByRecursion (ShortStatement n) ss → length ss ≤ m → sheet_in ss ≡ Some s → AreFew n m (steps s)
sheet_few n m [] s h l e = absurd cc
sheet_few n m (x ∷ ss) s h l e = by (header_of (tokens_in x)) e
  where
    all : AreFew n m (filter_map step_of_item (items_from (take_while (λ t. not (is_footer t)) ss) []))
    all =
        let has = items_few n (take_while (λ t. not (is_footer t)) ss) [] (all_taken (ShortStatement n) (λ t. not (is_footer t)) ss h.1) in
        let few = has.few in
        let fewer = few_taken (λ t. not (is_footer t)) ss in
        record { places = has.places; few = omega (arith, few, fewer, l) }

    by : (o : Option Header) → sheet_with (line_of x) o (take_while (λ t. not (is_footer t)) ss) ≡ Some s → AreFew n m (steps s)
    by None i = absurd cc
    by (Some q) i =
        let same : items_from (take_while (λ t. not (is_footer t)) ss) [] ≡ s.items = items_same _ s i in
        subst (λ is. AreFew n m (filter_map step_of_item is)) same all
      where
        items_same : (r t : Sheet) → Some r ≡ Some t → r.items ≡ t.items
        items_same r t j = let k : r ≡ t = cc in ap (λ (z : Sheet). z.items) k

-- the steps of what a text says are no more than its bytes, and so are the places of each but for one
pub text_few : (text : List ℕ) (s : Sheet) → sheet_in (statements text) ≡ Some s → AreFew (length text) (length text) (steps s)
text_few text s e =
    let short = all_filter (ShortLine (length text)) (λ l. not (is_blank l)) (numbered_from 1 (lines text)) (numbered_short (length text) 1 (lines text) (lines_short text)) in
    let a = statements_few false (lines_not_blank text) in
    let b = few_filter (λ l. not (is_blank l)) (numbered_from 1 (lines text)) in
    let c = numbered_few 1 (lines text) in
    let d = lines_few text in
    sheet_few (length text) (length text) (statements text) s (statements_short (length text) false (lines_not_blank text) short) (omega (arith, a, b, c, d)) e
