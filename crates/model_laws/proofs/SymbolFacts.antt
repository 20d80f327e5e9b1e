-- A constant is a symbol of the database, and the typecodes of active variables are those of `$f`.
use Rattle.std.proofs.Common.{◌≡◌, ◌<◌, ◌≤◌, ◌==◌, ◌+◌, ◌^◌, ℕ, zero, suc, Bool, true, false, cond, not, ◌&&◌, List, [], ◌∷◌, ◌++◌, length, map, take}
use Rattle.std.proofs.Common.{drop, reverse, Some, None, refl, sym, ap, ◌∙◌, subst, arith, inl, inr, codes, flat_map, get_or, nat_lt}
use Rattle.std.specs.Prelude.{Contains}
use Rattle.std.specs.List.{AllByRecursion, list_any, filter, prefix_len}
use Rattle.std.specs.Str.{bytes_eq}
use Rattle.std.proofs.lemmas.Bool.{cases_Bool, and_parts, and_from, or_cases, or_left, or_right, both_ways}
use Rattle.std.proofs.lemmas.Bool.Decides.{nat_tests}
use Rattle.std.proofs.lemmas.List.{length-append, length-reverse}
use Rattle.mm_base.specs.declared.symbols.Sym.{Sym}
use Rattle.mm_base.specs.declared.kinds.Kinds.{Kinds}
use Rattle.mm_model.specs.declared.frames.Hyp.{Hyp}
use Rattle.mm_model.specs.Faults.{fault, or_else}
use Rattle.mm_model.specs.Names.{Name, typecode}
use Rattle.mm_model.specs.Words.{Word, word, words, words_from, put_before, is_white}
use Rattle.mm_model.specs.Tokens.{tokens, tokens_where, token_fault, is_open_comment, is_close_comment}
use Rattle.mm_model.specs.Statements.{Statement, is_word, body, has_keyword, has_one_of, statement_fault, symbols_in, contains, constants, active}
use Rattle.mm_model.specs.Statements.{path, statements, database_fault, ended, unended, ends_statement}
use Rattle.mm_model.specs.Frames.{symbols, without_repeats, symbol_in, below, is_hypothesis, float_codes, hypothesis_of, active_at}
use Rattle.mm_model.specs.Productions.{TypedVariable, typed_by, typed_variables}
use Rattle.mm_model.specs.Book.{Database, IsDatabaseOf}
use Rattle.mm_model.proofs.Lists.{ended-on, unended-on, ended-end, unended-end}
use Rattle.model_laws.specs.DatabaseLaws.{HasSymbols, HaveSymbols}
use Rattle.model_laws.proofs.Checked.{last_first, reverse-cons}
use Rattle.model_laws.proofs.FrameFacts.{is_float, filter-map}
use Rattle.model_laws.proofs.Listed.{all-reverse, name_self}
use Rattle.model_laws.proofs.Passing.{any-reverse, any-take, any-filter, any-with, any-active}
use Rattle.model_laws.proofs.PlaceFacts.{from_constants, gives, code_names, into_codes, coded, coded_in}

-- ---- words are not empty

abbrev Filled : Word → Type 0
Filled w = bytes_eq [] w.bytes ≡ false

put_filled : (at b : ℕ) (ws : List Word) → AllByRecursion Filled ws → AllByRecursion Filled (put_before at b ws)
put_filled at b [] h = (refl, tt)
put_filled at b (w ∷ ws) h = by (w.start == suc at)
  where
    by : (t : Bool) → AllByRecursion Filled (cond t (word at (b ∷ w.bytes) ∷ ws) (word at (b ∷ []) ∷ w ∷ ws))
    by true = (refl, h.1)
    by false = (refl, h)

words_filled : (at : ℕ) (bs : List ℕ) → AllByRecursion Filled (words_from at bs)
words_filled at [] = tt
words_filled at (b ∷ bs) = by (is_white b) refl (words_filled (suc at) bs)
  where
    by : (t : Bool) → is_white b ≡ t → AllByRecursion Filled (words_from (suc at) bs) → AllByRecursion Filled (words_from at (b ∷ bs))
    by true e rest = rw e rest
    by false e rest = rw e (put_filled at b (words_from (suc at) bs) rest)

tokens_filled : (t : Bool) (ws : List Word) → AllByRecursion Filled ws → AllByRecursion Filled (tokens_where t ws)
tokens_filled t [] h = tt
tokens_filled true (w ∷ ws) h = tokens_filled (not (is_close_comment w)) ws h.1
tokens_filled false (w ∷ ws) h = by (is_open_comment w) refl (tokens_filled true ws h.1) (tokens_filled false ws h.1)
  where
    by : (t : Bool) → is_open_comment w ≡ t → AllByRecursion Filled (tokens_where true ws) → AllByRecursion Filled (tokens_where false ws) → AllByRecursion Filled (tokens_where false (w ∷ ws))
    by true e a b = rw e a
    by false e a b = rw e (h.0, b)

all_push : (P : Word → Type 0) (xs : List Word) (w : Word) → AllByRecursion P xs → P w → AllByRecursion P (xs ++ w ∷ [])
all_push P [] w h p = (p, tt)
all_push P (x ∷ xs) w h p = (h.0, all_push P xs w h.1 p)

abbrev AllFilled : Statement → Type 0
AllFilled s = AllByRecursion Filled s

statements_filled : (ws : List Word) → AllByRecursion Filled ws → AllFilled (unended ws) × AllByRecursion AllFilled (ended ws)
statements_filled [] h = (tt, tt)
statements_filled (w ∷ ws) h =
    let rest = statements_filled ws h.1 in
    elim (cases_Bool (ends_statement w)) [
      | inl e ↦ (subst AllFilled (sym (unended-end w ws e)) tt, subst (AllByRecursion AllFilled) (sym (ended-end w ws e)) (all_push Filled (unended ws) w rest.0 h.0, rest.1))
      | inr e ↦ (subst AllFilled (sym (unended-on w ws e)) (all_push Filled (unended ws) w rest.0 h.0), subst (AllByRecursion AllFilled) (sym (ended-on w ws e)) rest.1)
    ]

drop_filled : (n : ℕ) (ws : List Word) → AllByRecursion Filled ws → AllByRecursion Filled (drop n ws)
drop_filled zero ws h = h
drop_filled (suc n) [] h = h
drop_filled (suc n) (w ∷ ws) h = drop_filled n ws h.1

taken_filled : (n : ℕ) (ws : List Word) → AllByRecursion Filled ws → contains (map (λ (w : Word). w.bytes) (take n ws)) [] ≡ false
taken_filled zero ws h = refl
taken_filled (suc n) [] h = refl
taken_filled (suc n) (w ∷ ws) h = let one = h.0 in rw one (taken_filled n ws h.1)

symbols_filled : (s : Statement) → AllFilled s → contains (symbols_in s) [] ≡ false
symbols_filled s h = taken_filled (prefix_len is_word (drop 1 (body s))) (drop 1 (body s)) (drop_filled 1 (body s) (drop_filled (prefix_len is_word s) s h))

none_declares : (e : List Statement) → AllByRecursion AllFilled e → list_any (λ x. has_keyword (codes "$c") x && contains (symbols_in x) []) e ≡ true → ⊥
none_declares [] h d = cc
none_declares (s ∷ e) h d = elim (or_cases (has_keyword (codes "$c") s && contains (symbols_in s) []) (list_any (λ x. has_keyword (codes "$c") x && contains (symbols_in x) []) e) d) [
  | inl g ↦ both_ways (contains (symbols_in s) []) (symbols_filled s h.0) (and_parts (has_keyword (codes "$c") s) (contains (symbols_in s) []) g).1
  | inr g ↦ none_declares e h.1 g
]

past : (names : List Name) (k : ℕ) → length names ≤ k → get_or names k [] ≡ []
past [] k l = refl
past (n ∷ names) zero l = absurd (omega (arith, l))
past (n ∷ names) (suc k) l = past names k (omega (arith, l))

-- ---- active variables

active_source : (names : List Name) (hs : List Statement) (v : TypedVariable) → AllByRecursion (λ h. is_float h ≡ true) hs
    → Contains (flat_map (λ (h : Hyp). typed_by h.formula) (map (hypothesis_of names) hs)) v
    → (n : Name) × (coded names n ≡ v.code) × (list_any (gives n) hs ≡ true)
active_source names [] v f m = let less = m.1 in absurd (omega (arith, less))
active_source names (h ∷ hs) v f m = by (symbols_in h) refl (active_source names hs v f.1)
  where
    more : ((n : Name) × (coded names n ≡ v.code) × (list_any (gives n) hs ≡ true)) → (n : Name) × (coded names n ≡ v.code) × (list_any (gives n) (h ∷ hs) ≡ true)
    more r = (r.0, r.1, or_right (gives r.0 h) (list_any (gives r.0) hs) r.2)

    moved : (ns : List Name) → symbols_in h ≡ ns → Contains (typed_by (map (symbol_in names) ns) ++ flat_map (λ (x : Hyp). typed_by x.formula) (map (hypothesis_of names) hs)) v
    moved ns e = subst (λ xs. Contains (typed_by (map (symbol_in names) xs) ++ flat_map (λ (x : Hyp). typed_by x.formula) (map (hypothesis_of names) hs)) v) e m

    found_in : (a b : Name) (ns : List Name) → symbols_in h ≡ a ∷ b ∷ ns
        → (Contains (flat_map (λ (x : Hyp). typed_by x.formula) (map (hypothesis_of names) hs)) v
        → (n : Name) × (coded names n ≡ v.code) × (list_any (gives n) hs ≡ true))
        → Contains
        ((let q : TypedVariable = record { sym = symbol_in names b; code = typecode (symbol_in names a) } in q)
        ∷ flat_map (λ (x : Hyp). typed_by x.formula) (map (hypothesis_of names) hs)) v
        → (n : Name) × (coded names n ≡ v.code) × (list_any (gives n) (h ∷ hs) ≡ true)
    found_in a b ns e rest (zero, l, q) =
        let stands : contains (take 1 (symbols_in h)) a ≡ true = ap (λ xs. contains (take 1 xs) a) e ∙ or_left (bytes_eq a a) false (name_self a) in
        (a, ap (λ (x : TypedVariable). x.code) q, or_left (gives a h) (list_any (gives a) hs) (and_from (is_float h) _ f.0 stands))
    found_in a b ns e rest (suc k, l, q) = more (rest (k, omega (arith, l), q))

    by : (ns : List Name) → symbols_in h ≡ ns
        → (Contains (flat_map (λ (x : Hyp). typed_by x.formula) (map (hypothesis_of names) hs)) v
        → (n : Name) × (coded names n ≡ v.code) × (list_any (gives n) hs ≡ true))
        → (n : Name) × (coded names n ≡ v.code) × (list_any (gives n) (h ∷ hs) ≡ true)
    by [] e rest = more (rest (moved [] e))
    by (a ∷ []) e rest = more (rest (moved (a ∷ []) e))
    by (a ∷ b ∷ ns) e rest = found_in a b ns e rest (moved (a ∷ b ∷ ns) e)

all_floats : (hs : List Statement) → AllByRecursion (λ h. is_float h ≡ true) (filter is_float hs)
all_floats [] = tt
all_floats (h ∷ hs) = by (is_float h) refl (all_floats hs)
  where
    by : (t : Bool) → is_float h ≡ t → AllByRecursion (λ x. is_float x ≡ true) (filter is_float hs) → AllByRecursion (λ x. is_float x ≡ true) (filter is_float (h ∷ hs))
    by true e rest = rw e (e, rest)
    by false e rest = rw e rest

active_codes_at : (ss : List Statement) (p : ℕ) (v : TypedVariable) → Contains (typed_variables (active_at ss p).hyps) v → Contains (float_codes ss p) v.code
active_codes_at ss p v m =
    let b = below ss p in
    let hs = filter is_hypothesis (reverse (active b)) in
    let m' = subst (λ xs. Contains (flat_map (λ (h : Hyp). typed_by h.formula) xs) v) (filter-map (λ (h : Hyp). h.floating) (hypothesis_of (symbols ss)) hs) m in
    let r = active_source (symbols ss) (filter is_float hs) v (all_floats hs) m' in
    let one = any-with (λ x. is_float x && gives r.0 x) (gives r.0) (λ x d. (and_parts (is_float x) (gives r.0 x) d).1) hs (any-filter (gives r.0) is_float hs r.2) in
    let two =
    any-with (λ x. is_hypothesis x && gives r.0 x) (gives r.0) (λ x d. (and_parts (is_hypothesis x) (gives r.0 x) d).1) (reverse (active b))
    (any-filter (gives r.0) is_hypothesis (reverse (active b)) one) in
    let three = any-reverse (gives r.0) (take p ss) (any-active (gives r.0) (path b) b (any-reverse (gives r.0) (active b) two)) in
    subst (Contains (float_codes ss p)) r.1 (coded_in (symbols ss) (code_names (take p ss)) r.0 (into_codes (take p ss) r.0 three))

-- ---- symbols are no more than bytes

put_long : (at b : ℕ) (ws : List Word) → length (put_before at b ws) ≤ suc (length ws)
put_long at b [] = omega arith
put_long at b (w ∷ ws) = by (w.start == suc at)
  where
    by : (t : Bool) → length (cond t (word at (b ∷ w.bytes) ∷ ws) (word at (b ∷ []) ∷ w ∷ ws)) ≤ suc (suc (length ws))
    by true = omega arith
    by false = omega arith

words_long : (at : ℕ) (bs : List ℕ) → length (words_from at bs) ≤ length bs
words_long at [] = omega arith
words_long at (b ∷ bs) = by (is_white b) refl (words_long (suc at) bs)
  where
    by : (t : Bool) → is_white b ≡ t → length (words_from (suc at) bs) ≤ length bs → length (words_from at (b ∷ bs)) ≤ suc (length bs)
    by true e rest = rw e (omega (arith, rest))
    by false e rest = let one = put_long at b (words_from (suc at) bs) in rw e (omega (arith, rest, one))

tokens_long : (t : Bool) (ws : List Word) → length (tokens_where t ws) ≤ length ws
tokens_long t [] = omega arith
tokens_long true (w ∷ ws) = let rest = tokens_long (not (is_close_comment w)) ws in omega (arith, rest)
tokens_long false (w ∷ ws) = by (is_open_comment w) refl (tokens_long true ws) (tokens_long false ws)
  where
    by : (t : Bool) → is_open_comment w ≡ t → length (tokens_where true ws) ≤ length ws → length (tokens_where false ws) ≤ length ws → length (tokens_where false (w ∷ ws)) ≤ suc (length ws)
    by true e a b = rw e (omega (arith, a))
    by false e a b = rw e (omega (arith, b))

total : List Statement → ℕ
total [] = 0
total (s ∷ ss) = length s + total ss

length-push : (xs : List Word) (w : Word) → length (xs ++ w ∷ []) ≡ suc (length xs)
length-push [] w = refl
length-push (x ∷ xs) w = ap (λ n. suc n) (length-push xs w)

ended_long : (ws : List Word) → length (unended ws) + total (ended ws) ≤ length ws
unfolding total
ended_long [] = omega arith
ended_long (w ∷ ws) =
    let rest = ended_long ws in
    let one = length-push (unended ws) w in
    elim (cases_Bool (ends_statement w)) [
      | inl e ↦ rw (unended-end w ws e, ended-end w ws e) (omega (arith, rest, one))
      | inr e ↦ rw (unended-on w ws e, ended-on w ws e) (omega (arith, rest, one))
    ]

total-push : (ss : List Statement) (s : Statement) → total (ss ++ s ∷ []) ≡ total ss + length s
unfolding total
total-push [] s = omega arith
total-push (x ∷ ss) s = let rest = total-push ss s in omega (arith, rest)

total-reverse : (ss : List Statement) → total (reverse ss) ≡ total ss
unfolding total
total-reverse [] = refl
total-reverse (s ∷ ss) = let one = ap total (reverse-cons s ss) ∙ total-push (reverse ss) s in let rest = total-reverse ss in omega (arith, one, rest)

taken_long : (n : ℕ) (ws : List Word) → length (map (λ (w : Word). w.bytes) (take n ws)) ≤ length ws
taken_long zero ws = omega arith
taken_long (suc n) [] = omega arith
taken_long (suc n) (w ∷ ws) = let rest = taken_long n ws in omega (arith, rest)

drop_long : (n : ℕ) (ws : List Word) → length (drop n ws) ≤ length ws
drop_long zero ws = omega arith
drop_long (suc n) [] = omega arith
drop_long (suc n) (w ∷ ws) = let rest = drop_long n ws in omega (arith, rest)

symbols_long : (s : Statement) → length (symbols_in s) ≤ length s
symbols_long s =
    let one = taken_long (prefix_len is_word (drop 1 (body s))) (drop 1 (body s)) in
    let two = drop_long 1 (body s) in
    let three = drop_long (prefix_len is_word s) s in
    omega (arith, one, two, three)

all_symbols_long : (p : Statement → Bool) (ss : List Statement) → length (flat_map symbols_in (filter p ss)) ≤ total ss
unfolding total
all_symbols_long p [] = omega arith
all_symbols_long p (s ∷ ss) = by (p s) refl (all_symbols_long p ss)
  where
    by : (t : Bool) → p s ≡ t → length (flat_map symbols_in (filter p ss)) ≤ total ss → length (flat_map symbols_in (filter p (s ∷ ss))) ≤ length s + total ss
    by true e rest =
        let one = symbols_long s in
        let both = length-append (symbols_in s) (flat_map symbols_in (filter p ss)) in
        rw e (omega (arith, rest, one, both))
    by false e rest = rw e (omega (arith, rest))

repeats_long : (seen ns : List Name) → length (without_repeats seen ns) ≤ length ns
repeats_long seen [] = omega arith
repeats_long seen (n ∷ ns) = by (contains seen n) refl (repeats_long seen ns) (repeats_long (n ∷ seen) ns)
  where
    by : (t : Bool) → contains seen n ≡ t → length (without_repeats seen ns) ≤ length ns → length (without_repeats (n ∷ seen) ns) ≤ length ns
        → length (without_repeats seen (n ∷ ns)) ≤ suc (length ns)
    by true e a b = rw e (omega (arith, a))
    by false e a b = rw e (omega (arith, b))

length-reverse_ : {X : Type 0} (xs : List X) → length (reverse xs) ≡ length xs
length-reverse_ xs = length-reverse xs

symbols_few : (text : List ℕ) → length (symbols (statements text)) ≤ length text
symbols_few text =
    let one = repeats_long [] (flat_map symbols_in (filter (has_one_of (codes "$c" ∷ codes "$v" ∷ [])) (statements text))) in
    let two = all_symbols_long (has_one_of (codes "$c" ∷ codes "$v" ∷ [])) (statements text) in
    let three = total-reverse (ended (reverse (tokens text))) in
    let four = ended_long (reverse (tokens text)) in
    let five = length-reverse_ (tokens text) in
    let six = tokens_long false (words text) in
    let seven = words_long 0 text in
    omega (arith, one, two, three, four, five, six, seven)

text_few : (text : List ℕ) → database_fault text ≡ None → length text ≤ 2 ^ 28
text_few text ok = elim (cases_Bool (nat_lt (2 ^ 28) (length text))) [
  | inl d ↦ absurd (by (nat_lt (2 ^ 28) (length text)) d ok)
  | inr d ↦ below (length text) d
]
  where
    by : (t : Bool) → t ≡ true → cond t (Some (fault (2 ^ 28) 30)) (or_else (token_fault text) (statement_fault text)) ≡ None → ⊥
    by true e h = cc
    by false e h = cc

    below : (n : ℕ) → nat_lt (2 ^ 28) n ≡ false → n ≤ 2 ^ 28
    below n d = grind (arith, nat_tests, d)

module _ (kinds : Kinds) (text : List ℕ) (db : Database) (is : IsDatabaseOf kinds text db) where
  abbrev ss : List Statement
  ss = statements text

  all_filled : AllByRecursion AllFilled (last_first text)
  all_filled = (statements_filled (reverse (tokens text)) (all-reverse Filled (tokens text) (tokens_filled false (words text) (words_filled 0 text)))).1

  within : (s : Sym) (p : ℕ) → db.is_constant_at s p ≡ true → s.0 < length db.symbols
  within s p h = elim (cases_Bool (nat_lt s.0 (length db.symbols))) [
    | inl d ↦ grind (arith, nat_tests, d)
    | inr d ↦
        let long : length db.symbols ≤ s.0 = grind (arith, nat_tests, d) in
        let none : get_or (symbols ss) s.0 [] ≡ [] = past (symbols ss) s.0 (subst (λ names. length names ≤ s.0) is.symbols long) in
        let here : contains (constants (below ss p)) [] ≡ true = ap (contains (constants (below ss p))) (sym none) ∙ sym (is.is_constant_at s p) ∙ h in
        let some =
        any-take (λ x. has_keyword (codes "$c") x && contains (symbols_in x) []) p ss
        (any-reverse (λ x. has_keyword (codes "$c") x && contains (symbols_in x) []) (take p ss) (from_constants (below ss p) [] here)) in
        absurd (none_declares (last_first text) all_filled (any-reverse (λ x. has_keyword (codes "$c") x && contains (symbols_in x) []) (last_first text) some))
  ]

  symbols_are : database_fault text ≡ None → HasSymbols db
  symbols_are ok = record {
    few = (let one = symbols_few text in let two = text_few text ok in let three = ap (λ (names : List Name). length names) is.symbols in omega (arith, one, two, three));
    constants_within = within;
    active_codes = λ p v m. subst (λ cs. Contains cs v.code) (sym (is.float_codes p)) (active_codes_at ss p v (subst (λ a. Contains (typed_variables a.hyps) v) (is.active_at p) m));
  }

pub have_symbols : HaveSymbols
have_symbols kinds text db is ok = symbols_are kinds text db is ok
