-- A production has no more items than its database's text has bytes.
use Rattle.std.specs.Prelude.{◌≡◌, ℕ, ◌≤◌, ◌-◌, ◌^◌, min, Bool, true, false, List, [], ◌∷◌, ◌++◌, length, reverse, take, drop, take_while, count_by}
use Rattle.std.specs.Prelude.{slice_get, nat_lt, option_map, option_and_then, if◌then◌else◌, Option, Some, None, refl}
use Rattle.std.specs.List.{AllByRecursion, prefix_len}
use Rattle.std.specs.Option.{option_map_or}
use Rattle.std.proofs.Common.{zero, suc, sym, ap, subst, ◌∙◌, arith, inl, inr, cond}
use Rattle.std.proofs.lemmas.Bool.{cases_Bool}
use Rattle.std.proofs.lemmas.Bool.Decides.{nat_tests}
use Rattle.std.proofs.lemmas.List.{length-append, length-map, length-reverse, length-drop, reverse-append}
use Rattle.std.proofs.lemmas.List.Sums.{count_by-le-length}
use Rattle.mm_base.specs.declared.symbols.Label.{Label}
use Rattle.mm_model.specs.declared.frames.Frame.{Frame}
use Rattle.mm_model.specs.declared.rows.Production.{Production}
use Rattle.mm_model.specs.Faults.{fault, or_else}
use Rattle.mm_model.specs.Words.{Word}
use Rattle.mm_model.specs.Tokens.{tokens, token_fault}
use Rattle.mm_model.specs.Statements.{Statement, statements, unended, ended, ends_statement, is_word, body, symbols_in, statement_fault, database_fault}
use Rattle.mm_model.specs.Frames.{symbols, symbol_in, positions, frame_at, frame_of, is_assertion}
use Rattle.mm_model.specs.Productions.{typed_variables}
use Rattle.mm_model.specs.BookFacts.{item_symbol}
use Rattle.mm_frames.proofs.TokenFacts.{tokens-length}
use Rattle.model_laws.specs.DatabaseLaws.{HasDatabaseFacts}
use Rattle.chain_laws.specs.Adding.{is_constant, row_constants}
use Rattle.step_chain.specs.Constants.{ConstantsAreCounted}

-- ---- statements

abbrev IsShort : ℕ → Statement → Type 0
IsShort n s = length s ≤ n

unended_short : (ws : List Word) → length (unended ws) ≤ length ws
unended_short [] = omega arith
unended_short (w ∷ ws) = by (ends_statement w) (unended_short ws)
  where
    by : (b : Bool) → length (unended ws) ≤ length ws → length (cond b [] (unended ws ++ w ∷ [])) ≤ length (w ∷ ws)
    by true h = omega arith
    by false h = let both = length-append (unended ws) (w ∷ []) in omega (arith, both, h)

ended_short : (n : ℕ) (ws : List Word) → length ws ≤ n → AllByRecursion (IsShort n) (ended ws)
ended_short n [] h = tt
ended_short n (w ∷ ws) h = by (ends_statement w) (ended_short n ws (omega (arith, h)))
  where
    by : (b : Bool) → AllByRecursion (IsShort n) (ended ws) → AllByRecursion (IsShort n) (cond b ((unended ws ++ w ∷ []) ∷ ended ws) (ended ws))
    by true rest = (let both = length-append (unended ws) (w ∷ []) in let less = unended_short ws in omega (arith, both, less, h), rest)
    by false rest = rest

all_push : {X : Type 0} (P : X → Type 0) (xs : List X) (x : X) → AllByRecursion P xs → P x → AllByRecursion P (xs ++ x ∷ [])
all_push P [] x h g = (g, tt)
all_push P (y ∷ xs) x h g = (h.0, all_push P xs x h.1 g)

all_reverse : {X : Type 0} (P : X → Type 0) (xs : List X) → AllByRecursion P xs → AllByRecursion P (reverse xs)
all_reverse P [] h = tt
all_reverse P (x ∷ xs) h = subst (AllByRecursion P) (sym (reverse-append (x ∷ []) xs)) (all_push P (reverse xs) x (all_reverse P xs h.1) h.0)

all_at : (P : Statement → Type 0) (xs : List Statement) (k : ℕ) (x : Statement) → AllByRecursion P xs → slice_get xs k ≡ Some x → P x
all_at P [] k x h e = let impossible : ◌≡◌ {A = Option Statement} None (Some x) = e in absurd (cc)
all_at P (y ∷ xs) zero x h e = let same : y ≡ x = cc in subst P same h.0
all_at P (y ∷ xs) (suc k) x h e = all_at P xs k x h.1 e

pub statements_short : (text : List ℕ) → AllByRecursion (IsShort (length text)) (statements text)
statements_short text =
    let few = tokens-length text in
    let turned = length-reverse (tokens text) in
    all_reverse (IsShort (length text)) (ended (reverse (tokens text))) (ended_short (length text) (reverse (tokens text)) (omega (arith, few, turned)))

-- ---- frames

front_short : {X : Type 0} (k : ℕ) (xs : List X) → length (take k xs) ≤ length xs
front_short zero xs = omega arith
front_short (suc k) [] = omega arith
front_short (suc k) (x ∷ xs) = let rest = front_short k xs in omega (arith, rest)

drop_short : {X : Type 0} (k : ℕ) (xs : List X) → length (drop k xs) ≤ length xs
drop_short k xs = let less = length-drop k xs in omega (arith, less)

symbols_short : (s : Statement) → length (symbols_in s) ≤ length s
symbols_short s =
    let one = length-map (take_while is_word (drop 1 (body s))) (λ (w : Word). w.bytes) in
    let two : length (take_while is_word (drop 1 (body s))) ≤ length (drop 1 (body s)) = front_short (prefix_len is_word (drop 1 (body s))) (drop 1 (body s)) in
    let three = drop_short 1 (body s) in
    let four : length (body s) ≤ length s = drop_short (prefix_len is_word s) s in
    omega (arith, one, two, three, four)

formula_short : (ss : List Statement) (n : ℕ) (l : Label) (f : Frame) (at : ℕ) (s : Statement) (b : Bool) → length s ≤ n → cond b (Some (frame_at ss l at s)) None ≡ Some f → length f.formula ≤ n
formula_short ss n l f at s true h e =
    let same : frame_at ss l at s ≡ f = cc in
    let own = ap (λ (g : Frame). length g.formula) same in
    let one = length-map (symbols_in s) (symbol_in (symbols ss)) in
    let two = symbols_short s in
    omega (arith, own, one, two, h)
formula_short ss n l f at s false h e = let impossible : ◌≡◌ {A = Option Frame} None (Some f) = e in absurd (cc)

abbrev frame_by : List Statement → Label → Option (ℕ × Statement) → Option Frame
frame_by ss l o = option_and_then (λ p. if is_assertion p.1 then Some (frame_at ss l p.0 p.1) else None) o

frame_there : (ss : List Statement) (n : ℕ) (l : Label) (f : Frame) (at : ℕ) (o : Option Statement) → slice_get ss at ≡ o → AllByRecursion (IsShort n) ss
    → frame_by ss l (option_map (λ s. (at, s)) o) ≡ Some f → length f.formula ≤ n
frame_there ss n l f at None is h e = let impossible : ◌≡◌ {A = Option Frame} None (Some f) = e in absurd (cc)
frame_there ss n l f at (Some s) is h e = formula_short ss n l f at s (is_assertion s) (all_at (IsShort n) ss at s h is) e

frame_placed : (ss : List Statement) (n : ℕ) (l : Label) (f : Frame) (o : Option ℕ) → AllByRecursion (IsShort n) ss
    → frame_by ss l (option_and_then (λ at. option_map (λ s. (at, s)) (slice_get ss at)) o) ≡ Some f → length f.formula ≤ n
frame_placed ss n l f None h e = let impossible : ◌≡◌ {A = Option Frame} None (Some f) = e in absurd (cc)
frame_placed ss n l f (Some at) h e = frame_there ss n l f at (slice_get ss at) refl h e

frame_short : (ss : List Statement) (n : ℕ) (l : Label) (f : Frame) → AllByRecursion (IsShort n) ss → frame_of ss l ≡ Some f → length f.formula ≤ n
frame_short ss n l f h e = frame_placed ss n l f (slice_get (positions ss) l.0) h e

-- ---- the size of a text

text_few : (text : List ℕ) → database_fault text ≡ None → length text ≤ 2 ^ 28
text_few text ok = elim (cases_Bool (nat_lt (2 ^ 28) (length text))) [
  | inl d ↦ absurd (by (nat_lt (2 ^ 28) (length text)) d ok)
  | inr d ↦ below (length text) d
]
  where
    by : (t : Bool) → t ≡ true → cond t (Some (fault (2 ^ 28) 30)) (or_else (token_fault text) (statement_fault text)) ≡ None → ⊥
    by true e h = cc
    by false e h = cc

    below : (n : ℕ) → nat_lt (2 ^ 28) n ≡ false → n ≤ 2 ^ 28
    below n d = grind (arith, nat_tests, d)

-- ---- productions

abbrev counted : Option Production → ℕ
counted o = option_map_or row_constants o 0

small_min : (n m : ℕ) → n ≤ m → m ≤ 2 ^ 28 → min n (2 ^ 32 - 1) ≡ n
small_min n m h g = omega (arith, h, g)

pub constants_counted : HasDatabaseFacts → ConstantsAreCounted
constants_counted facts kinds text db is ok l r row =
    let known = facts kinds text db is ok in
    let own = known.rows l r row in
    let frame : frame_of (statements text) l ≡ Some own.0 = sym (is.frame l) ∙ own.1 in
    let few : length own.0.formula ≤ length text = frame_short (statements text) (length text) l own.0 (statements_short text) frame in
    let formula = ap length own.2.formula in
    let items = length-map r.items (item_symbol (typed_variables own.0.hyps)) in
    let less = count_by-le-length is_constant r.items in
    ap counted row ∙ small_min (count_by is_constant r.items) (length text) (omega (arith, few, formula, items, less)) (text_few text ok)
