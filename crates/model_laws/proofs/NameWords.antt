-- The labels and the symbols of a text without a fault are words.
use Rattle.std.proofs.Common.{◌≡◌, ◌==◌, ◌+◌, take, ℕ, zero, suc, Bool, true, false, cond, not, List, [], ◌∷◌, ◌++◌, length, map, drop, reverse, None}
use Rattle.std.proofs.Common.{refl, sym, ap, ◌∙◌, subst, inl, inr, codes, flat_map, ne_eqb, arith}
use Rattle.std.specs.Prelude.{nat_eq}
use Rattle.std.specs.List.{AllByRecursion, list_all, list_any, filter, take_while, prefix_len, ends_with}
use Rattle.std.proofs.lemmas.Bool.{cases_Bool, and_from, not-false}
use Rattle.mm_model.specs.declared.frames.Hyp.{Hyp}
use Rattle.mm_model.specs.declared.frames.Active.{Active}
use Rattle.mm_model.specs.Labels.{is_label, is_label_byte}
use Rattle.mm_model.specs.Names.{Name}
use Rattle.mm_model.specs.Words.{Word, word, words_from, put_before, words, is_white}
use Rattle.mm_model.specs.Tokens.{tokens, tokens_where, is_open_comment, is_close_comment}
use Rattle.mm_model.specs.Statements.{Statement, is_word, is_empty, labels_in, labels, symbols_in, body, unended, ended, statements, contains}
use Rattle.mm_model.specs.Statements.{has_one_of, bad_label, ends_statement, database_fault, active, active_on, path}
use Rattle.mm_model.specs.Frames.{without_repeats, symbols, below, label_in, is_hypothesis, hypothesis_of}
use Rattle.model_laws.specs.DatabaseLaws.{IsSymbolName, NamesAreWords, ActiveNamesArePlain}
use Rattle.model_laws.proofs.Checked.{EachBefore, IsChecked, At, rules_fail, last_first, text_checked, no_statement_fault}
use Rattle.model_laws.proofs.Listed.{all-reverse, all-filter, all_with}
use Rattle.model_laws.proofs.Shapes.{parts, at_split, LabelIsNew, label_is_new, AreWords}

-- ---- words are not empty, and have no white space

pub record IsInked (w : Word) : Type 0 where
  pub some : (length w.bytes == 0) ≡ false
  pub plain : list_all (λ b. not (is_white b)) w.bytes ≡ true

abbrev AreInked : List Word → Type 0
AreInked ws = AllByRecursion IsInked ws

one_byte : (at b : ℕ) → is_white b ≡ false → IsInked (word at (b ∷ []))
one_byte at b e = record { some = refl; plain = rw e refl }

one_more : (at b : ℕ) (w : Word) → is_white b ≡ false → IsInked w → IsInked (word at (b ∷ w.bytes))
one_more at b w e h = record { some = some_length w.bytes; plain = rw e h.plain }
  where
    some_length : (bs : List ℕ) → (suc (length bs) == 0) ≡ false
    some_length bs = ne_eqb (suc (length bs)) 0 (λ e. omega (arith, e))

put_inked : (at b : ℕ) (ws : List Word) → is_white b ≡ false → AreInked ws → AreInked (put_before at b ws)
put_inked at b [] e h = (one_byte at b e, tt)
put_inked at b (w ∷ ws) e h = elim (cases_Bool (w.start == suc at)) [
  | inl d ↦ rw d (one_more at b w e h.0, h.1)
  | inr d ↦ rw d (one_byte at b e, (h.0, h.1))
]

words_inked : (at : ℕ) (bs : List ℕ) → AreInked (words_from at bs)
words_inked at [] = tt
words_inked at (b ∷ bs) = elim (cases_Bool (is_white b)) [
  | inl e ↦ subst AreInked (sym (white_word e)) (words_inked (suc at) bs)
  | inr e ↦ subst AreInked (sym (inked_word e)) (put_inked at b (words_from (suc at) bs) e (words_inked (suc at) bs))
]
  where
    white_word : is_white b ≡ true → words_from at (b ∷ bs) ≡ words_from (suc at) bs
    white_word e = ap (λ c. cond c (words_from (suc at) bs) (put_before at b (words_from (suc at) bs))) e

    inked_word : is_white b ≡ false → words_from at (b ∷ bs) ≡ put_before at b (words_from (suc at) bs)
    inked_word e = ap (λ c. cond c (words_from (suc at) bs) (put_before at b (words_from (suc at) bs))) e

tokens_inked : (c : Bool) (ws : List Word) → AreInked ws → AreInked (tokens_where c ws)
tokens_inked true [] h = tt
tokens_inked false [] h = tt
tokens_inked true (w ∷ ws) h = tokens_inked (not (is_close_comment w)) ws h.1
tokens_inked false (w ∷ ws) h = elim (cases_Bool (is_open_comment w)) [
  | inl e ↦ rw e (tokens_inked true ws h.1)
  | inr e ↦ rw e (h.0, tokens_inked false ws h.1)
]

-- ---- statements

module _ {X : Type 0} (P : X → Type 0) where
  pub all_join : (xs ys : List X) → AllByRecursion P xs → AllByRecursion P ys → AllByRecursion P (xs ++ ys)
  all_join [] ys h k = k
  all_join (x ∷ xs) ys h k = (h.0, all_join xs ys h.1 k)

  all_dropped : (n : ℕ) (xs : List X) → AllByRecursion P xs → AllByRecursion P (drop n xs)
  all_dropped zero xs h = h
  all_dropped (suc n) [] h = tt
  all_dropped (suc n) (x ∷ xs) h = all_dropped n xs h.1

  while_yes : (p : X → Bool) (x : X) (xs : List X) → p x ≡ true → take_while p (x ∷ xs) ≡ x ∷ take_while p xs
  while_yes p x xs e = ap (λ b. take (cond b (1 + prefix_len p xs) 0) (x ∷ xs)) e ∙ ap (λ n. take n (x ∷ xs)) (one_plus (prefix_len p xs))
    where
      one_plus : (n : ℕ) → 1 + n ≡ suc n
      one_plus n = omega arith

  while_no : (p : X → Bool) (x : X) (xs : List X) → p x ≡ false → take_while p (x ∷ xs) ≡ []
  while_no p x xs e = ap (λ b. take (cond b (1 + prefix_len p xs) 0) (x ∷ xs)) e

  all_while : (p : X → Bool) (xs : List X) → AllByRecursion P xs → AllByRecursion (λ x. P x × (p x ≡ true)) (take_while p xs)
  all_while p [] h = tt
  all_while p (x ∷ xs) h = elim (cases_Bool (p x)) [
    | inl e ↦ subst (AllByRecursion (λ y. P y × (p y ≡ true))) (sym (while_yes p x xs e)) ((h.0, e), all_while p xs h.1)
    | inr e ↦ subst (AllByRecursion (λ y. P y × (p y ≡ true))) (sym (while_no p x xs e)) tt
  ]

all_mapped : {X Y : Type 0} (P : Y → Type 0) (f : X → Y) (xs : List X) → AllByRecursion (λ x. P (f x)) xs → AllByRecursion P (map f xs)
all_mapped P f [] h = tt
all_mapped P f (x ∷ xs) h = (h.0, all_mapped P f xs h.1)

all_pieces : {X Y : Type 0} (P : Y → Type 0) (f : X → List Y) (xs : List X) → AllByRecursion (λ x. AllByRecursion P (f x)) xs → AllByRecursion P (flat_map f xs)
all_pieces P f [] h = tt
all_pieces P f (x ∷ xs) h = all_join P (f x) (flat_map f xs) h.0 (all_pieces P f xs h.1)

unended_inked : (before : List Word) → AreInked before → AreInked (unended before)
unended_inked [] h = tt
unended_inked (w ∷ before) h = elim (cases_Bool (ends_statement w)) [
  | inl e ↦ rw e tt
  | inr e ↦ rw e (all_join IsInked (unended before) (w ∷ []) (unended_inked before h.1) (h.0, tt))
]

ended_inked : (before : List Word) → AreInked before → AllByRecursion AreInked (ended before)
ended_inked [] h = tt
ended_inked (w ∷ before) h = elim (cases_Bool (ends_statement w)) [
  | inl e ↦ rw e (all_join IsInked (unended before) (w ∷ []) (unended_inked before h.1) (h.0, tt), ended_inked before h.1)
  | inr e ↦ rw e (ended_inked before h.1)
]

statements_inked : (text : List ℕ) → AllByRecursion AreInked (statements text)
statements_inked text =
    all-reverse AreInked (ended (reverse (tokens text)))
    (ended_inked (reverse (tokens text)) (all-reverse IsInked (tokens text) (tokens_inked false (words text) (words_inked 0 text))))

-- ---- symbols

word_is_symbol : (w : Word) → IsInked w × (is_word w ≡ true) → IsSymbolName w.bytes
word_is_symbol w h = record { some = h.0.some; plain = h.0.plain; no_dollar = not_true (list_any (λ b. b == 36) w.bytes) h.1 }
  where
    not_true : (b : Bool) → not b ≡ true → b ≡ false
    not_true true e = sym e
    not_true false e = refl

symbols_named : (s : Statement) → AreInked s → AllByRecursion IsSymbolName (symbols_in s)
symbols_named s h =
    let ws = drop 1 (body s) in
    all_mapped IsSymbolName (λ (w : Word). w.bytes) (take_while is_word ws)
    (all_with (λ w. IsInked w × (is_word w ≡ true)) (λ (w : Word). IsSymbolName w.bytes) word_is_symbol (take_while is_word ws)
    (all_while IsInked is_word ws (all_dropped IsInked 1 (body s) (all_dropped IsInked (prefix_len is_word s) s h))))

without_named : (P : Name → Type 0) (seen ns : List Name) → AllByRecursion P ns → AllByRecursion P (without_repeats seen ns)
without_named P seen [] h = tt
without_named P seen (n ∷ ns) h = elim (cases_Bool (contains seen n)) [
  | inl e ↦ rw e (without_named P seen ns h.1)
  | inr e ↦ rw e (h.0, without_named P (n ∷ seen) ns h.1)
]

pub symbols_are_named : (text : List ℕ) → AllByRecursion IsSymbolName (symbols (statements text))
symbols_are_named text =
    let ss = filter (has_one_of (codes "$c" ∷ codes "$v" ∷ [])) (statements text) in
    without_named IsSymbolName [] (flat_map symbols_in ss)
    (all_pieces IsSymbolName symbols_in ss
    (all_with AreInked (λ s. AllByRecursion IsSymbolName (symbols_in s)) symbols_named ss (all-filter AreInked (has_one_of (codes "$c" ∷ codes "$v" ∷ [])) (statements text) (statements_inked text))))

-- ---- labels

label_here : (e : List Statement) (l : Word) (after : List Word) → At e [] l after → is_word l ≡ true → list_all is_label_byte l.bytes ≡ true
label_here e l after a h =
    let fail = rules_fail a.before l after a.no_rule in
    let empty : is_empty (unended a.before) ≡ true = ap is_empty a.unended_is in
    let bad : bad_label a.before l after ≡ false = fail.1.1.1.1.1.1.1.1.1.1.0 in
    not-false (list_all is_label_byte l.bytes) (rw (h, empty) at bad)

abbrev HasLabelBytes : Word → Type 0
HasLabelBytes w = list_all is_label_byte w.bytes ≡ true

label_by : (e : List Statement) (s : Statement) (ls rest : List Word) → IsChecked e s → s ≡ ls ++ rest → AreWords ls → LabelIsNew e ls → AllByRecursion HasLabelBytes ls
label_by e s [] rest c is h k = tt
label_by e s (l ∷ []) rest c is h k = (label_here e l (rest ++ c.after) (at_split e s [] l rest c is) h.0, tt)
label_by e s (l ∷ m ∷ ls) rest c is h k = absurd k

labels_good : (e : List Statement) (s : Statement) → IsChecked e s → AllByRecursion HasLabelBytes (labels_in s)
labels_good e s c =
    let p = parts is_word s in
    subst (AllByRecursion HasLabelBytes) (sym p.taken) (label_by e s p.front p.rest c p.whole p.pass (subst (λ x. LabelIsNew e x) p.taken (label_is_new e s c)))

all_good : (e : List Statement) → EachBefore IsChecked e → AllByRecursion (λ s. AllByRecursion HasLabelBytes (labels_in s)) e
all_good [] h = tt
all_good (s ∷ e) h = (labels_good e s h.0, all_good e h.1)

labels_inked : (s : Statement) → AreInked s → AllByRecursion IsInked (labels_in s)
labels_inked s h = all_with (λ w. IsInked w × (is_word w ≡ true)) IsInked (λ w k. k.0) (take_while is_word s) (all_while IsInked is_word s h)

both : (P Q : Word → Type 0) (R : Word → Type 0) → ((w : Word) → P w → Q w → R w) → (ws : List Word) → AllByRecursion P ws → AllByRecursion Q ws → AllByRecursion R ws
both P Q R f [] h k = tt
both P Q R f (w ∷ ws) h k = (f w h.0 k.0, both P Q R f ws h.1 k.1)

pub labels_are_named : (text : List ℕ) → database_fault text ≡ None → AllByRecursion (λ n. is_label n ≡ true) (labels (statements text))
labels_are_named text ok =
    let e = last_first text in
    let ss = statements text in
    let bytes = all_pieces HasLabelBytes labels_in ss (all-reverse (λ s. AllByRecursion HasLabelBytes (labels_in s)) e (all_good e (text_checked text (no_statement_fault text ok)))) in
    let inked = all_pieces IsInked labels_in ss (all_with AreInked (λ s. AllByRecursion IsInked (labels_in s)) labels_inked ss (statements_inked text)) in
    all_mapped (λ n. is_label n ≡ true) (λ (w : Word). w.bytes) (flat_map labels_in ss)
    (both IsInked HasLabelBytes (λ (w : Word). is_label w.bytes ≡ true)
    (λ w i b. and_from (not (length w.bytes == 0)) (list_all is_label_byte w.bytes) (ap not i.some) b) (flat_map labels_in ss) inked bytes)

pub names_words : NamesAreWords
names_words kinds text db is ok =
    (subst (AllByRecursion (λ n. is_label n ≡ true)) (sym is.labels) (labels_are_named text ok), subst (AllByRecursion IsSymbolName) (sym is.symbols) (symbols_are_named text))

-- ---- what is active

label_plain : (s : Statement) (ws : List Word) → AreInked ws → labels_in s ≡ ws → list_all (λ b. not (is_white b)) (label_in s) ≡ true
label_plain s [] h e = rw e refl
label_plain s (w ∷ ws) h e = rw e h.0.plain

some_active : (P : Statement → Type 0) (p : List ℕ) (e : List Statement) → AllByRecursion P e → AllByRecursion P (active_on p e)
some_active P p [] h = tt
some_active P p (s ∷ e) h = elim (cases_Bool (ends_with nat_eq p (path e))) [
  | inl d ↦ rw d (h.0, some_active P p e h.1)
  | inr d ↦ rw d (some_active P p e h.1)
]

all_taken : {X : Type 0} (P : X → Type 0) (n : ℕ) (xs : List X) → AllByRecursion P xs → AllByRecursion P (take n xs)
all_taken P zero xs h = tt
all_taken P (suc n) [] h = tt
all_taken P (suc n) (x ∷ xs) h = (h.0, all_taken P n xs h.1)

active_inked : (text : List ℕ) (place : ℕ) → AllByRecursion AreInked (active (below (statements text) place))
active_inked text place =
    let b = below (statements text) place in
    some_active AreInked (path b) b (all-reverse AreInked (take place (statements text)) (all_taken AreInked place (statements text) (statements_inked text)))

pub active_plain : ActiveNamesArePlain
active_plain kinds text db is ok place =
    let ss = statements text in
    let hs = filter is_hypothesis (reverse (active (below ss place))) in
    let inked = all-filter AreInked is_hypothesis (reverse (active (below ss place))) (all-reverse AreInked (active (below ss place)) (active_inked text place)) in
    subst (λ (a : Active). AllByRecursion (λ (h : Hyp). list_all (λ b. not (is_white b)) h.name ≡ true) a.hyps) (sym (is.active_at place))
    (all_mapped (λ (h : Hyp). list_all (λ b. not (is_white b)) h.name ≡ true) (hypothesis_of (symbols ss)) hs
    (all_with AreInked (λ s. list_all (λ b. not (is_white b)) (label_in s) ≡ true) (λ s h. label_plain s (labels_in s) (labels_inked s h) refl) hs inked))
