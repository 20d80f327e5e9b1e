-- What was declared as a constant is never a variable, and a label has bytes of labels alone.
use Rattle.std.proofs.Common.{◌≡◌, ◌==◌, length, ℕ, Bool, true, false, not, cond, ◌||◌, List, [], ◌∷◌, ◌++◌, map, reverse, refl, sym, ap, ◌∙◌, subst}
use Rattle.std.proofs.Common.{append_assoc, inl, inr, codes, flat_map}
use Rattle.std.specs.List.{AllByRecursion, list_all, take_while}
use Rattle.std.specs.Str.{bytes_eq}
use Rattle.std.proofs.lemmas.Bool.{and_parts, and_from, or_parts, or_cases, or_right, both_ways, not-false, false_from_ne_true}
use Rattle.std.proofs.lemmas.List.Folds.{list_any-append}
use Rattle.std.proofs.lemmas.Slice.Eq.{bytes_eq-Decides}
use Rattle.mm_model.specs.Labels.{is_label, is_label_byte}
use Rattle.mm_model.specs.Tokens.{tokens, tokens_where, is_open_comment, is_close_comment}
use Rattle.sheet_text.specs.Spellable.{is_token}
use Rattle.sheet_laws.proofs.WordLaws.{tokens_at-tokens}
use Rattle.mm_model.specs.Names.{Name}
use Rattle.mm_model.specs.Words.{Word, words, is_white}
use Rattle.mm_model.specs.Statements.{Statement, statements, ends_statement, is_word, is_empty, is_symbol_of, is_constant, is_variable}
use Rattle.mm_model.specs.Statements.{stands_in_statement, unended, ended, has_keyword, labels_in, labels, symbols_in, second, contains, constants}
use Rattle.mm_model.specs.Statements.{variables, variables_ever, with_keyword, active, path, redeclared, bad_label}
use Rattle.mm_model.proofs.Lists.{added, constants-cons, variables_ever-cons}
use Rattle.model_laws.proofs.Checked.{EachBefore, IsChecked, At, rules_fail}
use Rattle.model_laws.proofs.Shapes.{shape, parts, AreWords, AtSymbol, before_symbol, at_symbol, at_split, LabelIsNew, label_is_new}
use Rattle.model_laws.proofs.Symbols.{other_fails, FloatKnown, float_known}
use Rattle.model_laws.proofs.Listed.{same_names, all-reverse, all_with}
use Rattle.model_laws.proofs.FrameFacts.{is_float, one_keyword}
use Rattle.model_laws.proofs.Passing.{any-filter, any_kept, any-flat, any-active}

-- ---- a symbol of a `$c` or a `$v`

constant_new : (e : List Statement) (us : List Word) (w : Word) (after : List Word) → AtSymbol e (codes "$c") us w after → contains (variables_ever e) w.bytes ≡ false
constant_new e us w after f =
    let before = f.here.before in
    let known = before_symbol e (codes "$c") us w after f in
    let fail : redeclared before w after ≡ false = (rules_fail before w after f.here.no_rule).1.1.0 in
    let stands : is_symbol_of (codes "$c" ∷ []) before w ≡ true = rw (f.pass, known.keyword (codes "$c" ∷ []), known.no_proof) refl in
    let three = other_fails _ _ stands (or_parts _ _ fail).0 in
    let two = (or_parts (is_constant before w || contains (variables_ever (ended before)) w.bytes) (stands_in_statement before w) three).0 in
    ap (λ (x : List Statement). contains (variables_ever x) w.bytes) (sym f.here.ended_is) ∙ (or_parts (is_constant before w) (contains (variables_ever (ended before)) w.bytes) two).1

variable_new : (e : List Statement) (us : List Word) (w : Word) (after : List Word) → AtSymbol e (codes "$v") us w after → contains (constants e) w.bytes ≡ false
variable_new e us w after f =
    let before = f.here.before in
    let known = before_symbol e (codes "$v") us w after f in
    let fail : redeclared before w after ≡ false = (rules_fail before w after f.here.no_rule).1.1.0 in
    let stands : is_symbol_of (codes "$v" ∷ []) before w ≡ true = rw (f.pass, known.keyword (codes "$v" ∷ []), known.no_proof) refl in
    let three = other_fails _ _ stands (or_parts _ _ fail).1 in
    let two = (or_parts (is_constant before w || is_variable before w) (stands_in_statement before w) three).0 in
    ap (λ (x : List Statement). contains (constants x) w.bytes) (sym f.here.ended_is) ∙ (or_parts (is_constant before w) (is_variable before w) two).0

module _ (e : List Statement) (s : Statement) (k : List ℕ) (c : IsChecked e s) (h : has_keyword k s ≡ true) (differs : bytes_eq k (codes "$=") ≡ false) (P : Name → Type 0)
    (at : (us : List Word) (w : Word) (after : List Word) → AtSymbol e k us w after → P w.bytes) where
  later_symbols : (us more : List Word) → (shape s k h).us ≡ us ++ more → AllByRecursion P (map (λ (w : Word). w.bytes) more)
  later_symbols us [] is = tt
  later_symbols us (w ∷ more) is = (at us w _ (at_symbol e s k c h differs us w more is), later_symbols (us ++ w ∷ []) more (is ∙ sym (append_assoc us (w ∷ []) more)))

  each_symbol : AllByRecursion P (symbols_in s)
  each_symbol = subst (AllByRecursion P) (sym (shape s k h).symbols_are) (later_symbols [] (shape s k h).us refl)

pub all_names : (P : Name → Type 0) (ns : List Name) (n : Name) → AllByRecursion P ns → contains ns n ≡ true → P n
all_names P [] n a h = absurd cc
all_names P (m ∷ ns) n a h = elim (or_cases (bytes_eq n m) (contains ns n) h) [
  | inl d ↦ subst P (sym (same_names n m d)) a.0
  | inr d ↦ all_names P ns n a.1 d
]

added_has : (k : List ℕ) (s : Statement) (n : Name) → contains (added k symbols_in s) n ≡ true → (has_keyword k s ≡ true) × (contains (symbols_in s) n ≡ true)
added_has k s n h = go (has_keyword k s) refl h
  where
    go : (b : Bool) → has_keyword k s ≡ b → contains (cond b (symbols_in s) []) n ≡ true → (has_keyword k s ≡ true) × (contains (symbols_in s) n ≡ true)
    go true e i = (e, i)
    go false e i = absurd cc

split_names : (xs ys : List Name) (n : Name) → contains (xs ++ ys) n ≡ true → (contains xs n || contains ys n) ≡ true
split_names xs ys n h = sym (list_any-append (bytes_eq n) xs ys) ∙ h

-- no constant was ever declared as a variable
pub never_both : (e : List Statement) → EachBefore IsChecked e → (n : Name) → contains (constants e) n ≡ true → contains (variables_ever e) n ≡ true → ⊥
never_both [] h n c v = cc
never_both (s ∷ e) h n c v = elim (or_cases _ _ (split_names (added (codes "$c") symbols_in s) (constants e) n (sym (ap (λ ns. contains ns n) (constants-cons s e)) ∙ c))) [
  | inl new ↦
      let one = added_has (codes "$c") s n new in
      elim (or_cases _ _ (split_names (added (codes "$v") symbols_in s) (variables_ever e) n (sym (ap (λ ns. contains ns n) (variables_ever-cons s e)) ∙ v))) [
        | inl too ↦ both_ways (has_keyword (codes "$v") s) (one_keyword s (codes "$c") (codes "$v") one.0 refl) (added_has (codes "$v") s n too).0
        | inr old ↦
            both_ways (contains (variables_ever e) n)
            (all_names (λ m. contains (variables_ever e) m ≡ false) (symbols_in s) n
            (each_symbol e s (codes "$c") h.0 one.0 refl (λ m. contains (variables_ever e) m ≡ false) (constant_new e)) one.1) old
      ]
  | inr past ↦ elim (or_cases _ _ (split_names (added (codes "$v") symbols_in s) (variables_ever e) n (sym (ap (λ ns. contains ns n) (variables_ever-cons s e)) ∙ v))) [
    | inl new ↦
        let one = added_has (codes "$v") s n new in
        both_ways (contains (constants e) n)
        (all_names (λ m. contains (constants e) m ≡ false) (symbols_in s) n (each_symbol e s (codes "$v") h.0 one.0 refl (λ m. contains (constants e) m ≡ false) (variable_new e)) one.1) past
    | inr old ↦ never_both e h.1 n past old
  ]
]

-- an active variable was declared
pub active_is_ever : (e : List Statement) (n : Name) → contains (variables e) n ≡ true → contains (variables_ever e) n ≡ true
active_is_ever e n h =
    any-flat (bytes_eq n) symbols_in (with_keyword (codes "$v") e)
    ∙ any_kept (λ x. contains (symbols_in x) n) (has_keyword (codes "$v")) e
    (any-active _ (path e) e (any-filter (λ x. contains (symbols_in x) n) (has_keyword (codes "$v")) (active e) (sym (any-flat (bytes_eq n) symbols_in (with_keyword (codes "$v") (active e))) ∙ h)))

-- the variable of each `$f` was declared as one
abbrev pub FloatDeclared : List Statement → Statement → Type 0
FloatDeclared b s = is_float s ≡ true → (v : Name) → contains (second (symbols_in s)) v ≡ true → contains (variables_ever b) v ≡ true

declared_by : (e : List Statement) (ns : List Name) → FloatKnown e ns → (v : Name) → contains (second ns) v ≡ true → contains (variables_ever e) v ≡ true
declared_by e [] k v h = absurd cc
declared_by e (c ∷ []) k v h = absurd cc
declared_by e (c ∷ u ∷ ns) k v h = elim (or_cases (bytes_eq v u) false h) [
  | inl d ↦ active_is_ever e v (ap (contains (variables e)) (same_names v u d) ∙ k.1)
  | inr d ↦ let bad : false ≡ true = d in absurd cc
]

ever_more : (s : Statement) (e : List Statement) (n : Name) → contains (variables_ever e) n ≡ true → contains (variables_ever (s ∷ e)) n ≡ true
ever_more s e n h = ap (λ ns. contains ns n) (variables_ever-cons s e) ∙ list_any-append (bytes_eq n) (added (codes "$v") symbols_in s) (variables_ever e) ∙ or_right _ _ h

pub floats_declared : (e : List Statement) → EachBefore IsChecked e → AllByRecursion (FloatDeclared e) e
floats_declared [] h = tt
floats_declared (s ∷ e) h = (
  (λ f v i. ever_more s e v (declared_by e (symbols_in s) (float_known e s h.0 f) v i)),
  all_with (FloatDeclared e) (FloatDeclared (s ∷ e)) (λ t d f v i. ever_more s e v (d f v i)) e (floats_declared e h.1),
)

-- ---- labels

abbrev pub IsSpelled : Name → Type 0
IsSpelled n = list_all is_label_byte n ≡ true

label_bytes : (e : List Statement) (l : Word) (after : List Word) → At e [] l after → is_word l ≡ true → IsSpelled l.bytes
label_bytes e l after a h =
    let fail = rules_fail a.before l after a.no_rule in
    let empty : is_empty (unended a.before) ≡ true = ap is_empty a.unended_is in
    let bad : bad_label a.before l after ≡ false = fail.1.1.1.1.1.1.1.1.1.1.0 in
    let spelled : not (list_all is_label_byte l.bytes) ≡ false = rw (h, empty) at bad in
    not-false (list_all is_label_byte l.bytes) spelled

spelled_by : (e : List Statement) (s : Statement) (ls rest : List Word) → IsChecked e s → s ≡ ls ++ rest → AreWords ls → LabelIsNew e ls → AllByRecursion IsSpelled (map (λ (w : Word). w.bytes) ls)
spelled_by e s [] rest c is pass new = tt
spelled_by e s (l ∷ []) rest c is pass new = (label_bytes e l _ (at_split e s [] l rest c is) pass.0, tt)
spelled_by e s (l ∷ m ∷ ls) rest c is pass new = absurd new

statement_spelled : (e : List Statement) (s : Statement) → IsChecked e s → AllByRecursion IsSpelled (map (λ (w : Word). w.bytes) (labels_in s))
statement_spelled e s c =
    let p = parts is_word s in
    subst (λ ls. AllByRecursion IsSpelled (map (λ (w : Word). w.bytes) ls)) (sym p.taken) (spelled_by e s p.front p.rest c p.whole p.pass (subst (LabelIsNew e) p.taken (label_is_new e s c)))

abbrev StatementSpelled : Statement → Type 0
StatementSpelled s = AllByRecursion IsSpelled (map (λ (w : Word). w.bytes) (labels_in s))

all_spelled : (e : List Statement) → EachBefore IsChecked e → AllByRecursion StatementSpelled e
all_spelled [] h = tt
all_spelled (s ∷ e) h = (statement_spelled e s h.0, all_spelled e h.1)

append_all : (xs ys : List Word) → AllByRecursion IsSpelled (map (λ (w : Word). w.bytes) xs)
    → AllByRecursion IsSpelled (map (λ (w : Word). w.bytes) ys) → AllByRecursion IsSpelled (map (λ (w : Word). w.bytes) (xs ++ ys))
append_all [] ys h k = k
append_all (x ∷ xs) ys h k = (h.0, append_all xs ys h.1 k)

flat_spelled : (ss : List Statement) → AllByRecursion StatementSpelled ss → AllByRecursion IsSpelled (labels ss)
flat_spelled [] h = tt
flat_spelled (s ∷ ss) h = append_all (labels_in s) (flat_map labels_in ss) h.0 (flat_spelled ss h.1)

pub labels_spelled : (e : List Statement) → EachBefore IsChecked e → AllByRecursion IsSpelled (labels (reverse e))
labels_spelled e h = flat_spelled (reverse e) (all-reverse StatementSpelled e (all_spelled e h))

-- such a name is no `?`
pub spelled_plain : (n : Name) → IsSpelled n → bytes_eq n (codes "?") ≡ false
spelled_plain n h = false_from_ne_true (bytes_eq n (codes "?")) (λ e.
    let bad : false ≡ true = ap (list_all is_label_byte) (sym ((bytes_eq-Decides n (codes "?")).0 e)) ∙ h in
    cc)

-- ---- words have bytes

abbrev IsFull : Word → Type 0
IsFull w = is_token w.bytes ≡ true

full_words : (ws : List Word) → list_all is_token (map (λ (w : Word). w.bytes) ws) ≡ true → AllByRecursion IsFull ws
full_words [] e = tt
full_words (w ∷ ws) e = let two = and_parts (is_token w.bytes) (list_all is_token (map (λ (x : Word). x.bytes) ws)) e in (two.0, full_words ws two.1)

full_tokens : (b : Bool) (ws : List Word) → AllByRecursion IsFull ws → AllByRecursion IsFull (tokens_where b ws)
full_tokens b [] a = tt
full_tokens true (w ∷ ws) a = full_tokens (not (is_close_comment w)) ws a.1
full_tokens false (w ∷ ws) a = elim (is_open_comment w) as (λ t. AllByRecursion IsFull (cond t (tokens_where true ws) (w ∷ tokens_where false ws))) [
  | true ↦ full_tokens true ws a.1
  | false ↦ (a.0, full_tokens false ws a.1)
]

full_push : (xs : List Word) (w : Word) → AllByRecursion IsFull xs → IsFull w → AllByRecursion IsFull (xs ++ w ∷ [])
full_push [] w a f = (f, tt)
full_push (x ∷ xs) w a f = (a.0, full_push xs w a.1 f)

full_statements : (before : List Word) → AllByRecursion IsFull before → AllByRecursion (AllByRecursion IsFull) (ended before) × AllByRecursion IsFull (unended before)
full_statements [] a = (tt, tt)
full_statements (w ∷ before) a =
    let r = full_statements before a.1 in
    elim (ends_statement w) as
    (λ t. AllByRecursion (AllByRecursion IsFull) (cond t ((unended before ++ w ∷ []) ∷ ended before) (ended before))
    × AllByRecursion IsFull (cond t [] (unended before ++ w ∷ []))) [
      | true ↦ ((full_push (unended before) w r.1 a.0, r.0), tt)
      | false ↦ (r.0, full_push (unended before) w r.1 a.0)
    ]

full_front : (xs ys : List Word) → AllByRecursion IsFull (xs ++ ys) → AllByRecursion IsFull xs
full_front [] ys a = tt
full_front (x ∷ xs) ys a = (a.0, full_front xs ys a.1)

full_taken : (s : List Word) → AllByRecursion IsFull s → AllByRecursion IsFull (take_while is_word s)
full_taken s a = let p = parts is_word s in subst (AllByRecursion IsFull) (sym p.taken) (full_front p.front p.rest (subst (AllByRecursion IsFull) p.whole a))

full_names : (ws more : List Word) → AllByRecursion IsFull ws → AllByRecursion (λ n. is_token n ≡ true) (map (λ (w : Word). w.bytes) more)
    → AllByRecursion (λ n. is_token n ≡ true) (map (λ (w : Word). w.bytes) (ws ++ more))
full_names [] more a b = b
full_names (w ∷ ws) more a b = (a.0, full_names ws more a.1 b)

full_labels : (ss : List Statement) → AllByRecursion (AllByRecursion IsFull) ss → AllByRecursion (λ n. is_token n ≡ true) (labels ss)
full_labels [] a = tt
full_labels (s ∷ ss) a = full_names (labels_in s) (flat_map labels_in ss) (full_taken s a.0) (full_labels ss a.1)

-- the labels of a text have bytes
pub labels_full : (text : List ℕ) → AllByRecursion (λ n. is_token n ≡ true) (labels (statements text))
labels_full text =
    let words' = full_words (words text) (tokens_at-tokens 0 text) in
    let tokens' = all-reverse IsFull (tokens text) (full_tokens false (words text) words') in
    full_labels (statements text) (all-reverse (AllByRecursion IsFull) (ended (reverse (tokens text))) (full_statements (reverse (tokens text)) tokens').0)

pub label_from : (n : Name) → is_token n ≡ true → IsSpelled n → is_label n ≡ true
label_from n f s = and_from (not (length n == 0)) (list_all is_label_byte n) (and_parts (not (length n == 0)) (list_all (λ b. not (is_white b)) n) f).0 s

pub label_spelled : (n : Name) → is_label n ≡ true → IsSpelled n
label_spelled n h = (and_parts (not (length n == 0)) (list_all is_label_byte n) h).1
