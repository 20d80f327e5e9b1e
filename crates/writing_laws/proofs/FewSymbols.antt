-- A database of a text without a fault has no more symbols than the text has bytes.
use Rattle.std.specs.Prelude.{◌≡◌, ◌<◌, ◌≤◌, ◌+◌, ◌^◌, ℕ, suc, Bool, true, false, not, List, [], ◌∷◌, ◌++◌, length, take, drop, filter, flat_map}
use Rattle.std.specs.Prelude.{reverse, nat_lt, ◌==◌, Option, Some, None, codes, refl}
use Rattle.std.specs.List.{prefix_len}
use Rattle.std.proofs.Common.{ap, ◌∙◌, arith, inl, inr, length-append, length-drop, ltb-false, cond}
use Rattle.std.proofs.lemmas.Bool.{cases_Bool}
use Rattle.std.proofs.lemmas.List.{length-map, length-take, length-reverse, reverse-append}
use Rattle.mm_base.specs.declared.kinds.Kinds.{Kinds}
use Rattle.mm_model.specs.Words.{Word, is_white, put_before, words_from, words}
use Rattle.mm_model.specs.Tokens.{is_open_comment, is_close_comment, tokens_where, tokens, token_fault}
use Rattle.mm_model.specs.Faults.{fault, or_else}
use Rattle.mm_model.specs.Names.{Name, contains}
use Rattle.mm_model.specs.Statements.{Statement, is_word, ends_statement, unended, ended, statements, body, symbols_in, has_one_of, statement_fault, database_fault}
use Rattle.mm_model.specs.Frames.{without_repeats, symbols}
use Rattle.mm_model.specs.Book.{Database}
use Rattle.written_model.specs.Opened.{IsOpened}
use Rattle.writing_laws.specs.HasNames.{HasFewSymbols}

-- ---- words and tokens

put_long : (at b : ℕ) (ws : List Word) → length (put_before at b ws) ≤ suc (length ws)
put_long at b [] = omega arith
put_long at b (w ∷ ws) = elim (cases_Bool (w.start == suc at)) [ inl e ↦ rw e (omega arith) | inr e ↦ rw e (omega arith) ]

words_long : (at : ℕ) (bs : List ℕ) → length (words_from at bs) ≤ length bs
words_long at [] = omega arith
words_long at (b ∷ bs) =
    let rest = words_long (suc at) bs in
    let put = put_long at b (words_from (suc at) bs) in
    elim (cases_Bool (is_white b)) [ inl e ↦ rw e (omega (arith, rest)) | inr e ↦ rw e (omega (arith, rest, put)) ]

tokens_long : (c : Bool) (ws : List Word) → length (tokens_where c ws) ≤ length ws
tokens_long true [] = omega arith
tokens_long false [] = omega arith
tokens_long true (w ∷ ws) = by (is_close_comment w) (tokens_long true ws) (tokens_long false ws)
  where
    by : (b : Bool) → length (tokens_where true ws) ≤ length ws → length (tokens_where false ws) ≤ length ws → length (tokens_where (not b) ws) ≤ suc (length ws)
    by true t f = omega (arith, f)
    by false t f = omega (arith, t)
tokens_long false (w ∷ ws) =
    let inside = tokens_long true ws in
    let outside = tokens_long false ws in
    elim (cases_Bool (is_open_comment w)) [ inl e ↦ rw e (omega (arith, inside)) | inr e ↦ rw e (omega (arith, outside)) ]

-- ---- statements

total : List Statement → ℕ
total [] = 0
total (s ∷ ss) = length s + total ss

total-append : (ss rs : List Statement) → total (ss ++ rs) ≡ total ss + total rs
unfolding total
total-append [] rs = omega arith
total-append (s ∷ ss) rs = let rest = total-append ss rs in omega (arith, rest)

total-reverse : (ss : List Statement) → total (reverse ss) ≡ total ss
unfolding total
total-reverse [] = refl
total-reverse (s ∷ ss) =
    let rest = total-reverse ss in
    let both = ap total (reverse-append (s ∷ []) ss) ∙ total-append (reverse ss) (s ∷ []) in
    omega (arith, rest, both)

ended_total : (ws : List Word) → length (unended ws) + total (ended ws) ≤ length ws
unfolding total
ended_total [] = omega arith
ended_total (w ∷ ws) =
    let rest = ended_total ws in
    let one = length-append (unended ws) (w ∷ []) in
    elim (cases_Bool (ends_statement w)) [ inl e ↦ rw e (omega (arith, rest, one)) | inr e ↦ rw e (omega (arith, rest, one)) ]

statements_total : (text : List ℕ) → total (statements text) ≤ length text
statements_total text =
    let all = ended_total (reverse (tokens text)) in
    let turned = total-reverse (ended (reverse (tokens text))) in
    let long = length-reverse (tokens text) in
    let inside = tokens_long false (words text) in
    let within = words_long 0 text in
    omega (arith, all, turned, long, inside, within)

-- ---- symbols

take_long : {X : Type 0} (n : ℕ) (xs : List X) → length (take n xs) ≤ length xs
take_long n xs = let long = length-take n xs in omega (arith, long)

symbols_long : (s : Statement) → length (symbols_in s) ≤ length s
symbols_long s =
    let one = length-map (take (prefix_len is_word (drop 1 (body s))) (drop 1 (body s))) (λ (w : Word). w.bytes) in
    let two = take_long (prefix_len is_word (drop 1 (body s))) (drop 1 (body s)) in
    let three = length-drop 1 (body s) in
    let four = length-drop (prefix_len is_word s) s in
    omega (arith, one, two, three, four)

all_symbols : (p : Statement → Bool) (ss : List Statement) → length (flat_map symbols_in (filter p ss)) ≤ total ss
unfolding total
all_symbols p [] = omega arith
all_symbols p (s ∷ ss) =
    let rest = all_symbols p ss in
    let here = symbols_long s in
    let both = length-append (symbols_in s) (flat_map symbols_in (filter p ss)) in
    elim (cases_Bool (p s)) [ inl e ↦ rw e (omega (arith, rest, here, both)) | inr e ↦ rw e (omega (arith, rest)) ]

once_long : (seen ns : List Name) → length (without_repeats seen ns) ≤ length ns
once_long seen [] = omega arith
once_long seen (n ∷ ns) =
    let more = once_long (n ∷ seen) ns in
    let same = once_long seen ns in
    elim (cases_Bool (contains seen n)) [ inl e ↦ rw e (omega (arith, same)) | inr e ↦ rw e (omega (arith, more)) ]

-- ---- the text is not too long

no_fault : {X : Type 0} (b : Bool) (x : X) (o : Option X) → cond b (Some x) o ≡ None → b ≡ false
no_fault true x o e = absurd (cc)
no_fault false x o e = refl

text_long : (text : List ℕ) → database_fault text ≡ None → length text ≤ 2 ^ 28
text_long text e = ltb-false (2 ^ 28) (length text) (no_fault (nat_lt (2 ^ 28) (length text)) (fault (2 ^ 28) 30) (or_else (token_fault text) (statement_fault text)) e)

pub symbols_below : (kinds : Kinds) (db : Database) → IsOpened kinds db → length db.symbols ≤ 2 ^ 28
symbols_below kinds db o =
    let small = text_long o.text o.sound in
    let ss = statements o.text in
    let declared = has_one_of (codes "$c" ∷ codes "$v" ∷ []) in
    let same = ap (λ (ns : List Name). length ns) o.is_database.symbols in
    let once = once_long [] (flat_map symbols_in (filter declared ss)) in
    let all = all_symbols declared ss in
    let within = statements_total o.text in
    bounded (length db.symbols) (length (symbols ss)) (total ss) (length o.text) same (chained _ _ _ once all) within small
  where
    chained : (a b c : ℕ) → a ≤ b → b ≤ c → a ≤ c
    chained a b c l m = omega (arith, l, m)

    bounded : (a b c d : ℕ) → a ≡ b → b ≤ c → c ≤ d → d ≤ 2 ^ 28 → a ≤ 2 ^ 28
    bounded a b c d e l m s = omega (arith, e, l, m, s)

pub few_symbols : (kinds : Kinds) (db : Database) → IsOpened kinds db → HasFewSymbols db
few_symbols kinds db o = let below = symbols_below kinds db o in omega (arith, below)
