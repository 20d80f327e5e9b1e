-- The statements of a database as a flat list, what is active, and the faults 10 to 30 (Metamath book, section 4.2).
use Rattle.std.specs.Prelude.{ℕ, Bool, true, false, not, ◌&&◌, ◌||◌, ◌==◌, List, [], ◌∷◌, ◌++◌, length, take, drop, nat_lt, nat_le, nat_eq}
use Rattle.std.specs.Prelude.{Option, Some, None, if◌then◌else◌, map, reverse, flat_map, filter, take_while, codes}
use Rattle.std.specs.List.{list_any, list_all, ends_with, prefix_len}
use Rattle.std.specs.Str.{bytes_eq}
use Rattle.mm_base.specs.Limits.{most_database_bytes}
use Rattle.mm_model.specs.Faults.{Fault, fault, or_else, first_fault_within}
use Rattle.mm_model.specs.Words.{Word}
use Rattle.mm_model.specs.Tokens.{tokens, token_fault}
use Rattle.mm_model.specs.Labels.{is_label_byte}
pub use Rattle.mm_model.specs.Names.{contains}

-- a list without items
abbrev pub is_empty : {X : Type 0} → List X → Bool
is_empty [] = true
is_empty (x ∷ xs) = false

-- ---- statements: each ends with `$.`, `${` or `$}`; lists of tokens or statements "before" a place have the nearest first

-- the token is this one
abbrev pub is : List ℕ → Word → Bool
is bytes w = bytes_eq w.bytes bytes

-- the token is one of these
abbrev pub is_one_of : List (List ℕ) → Word → Bool
is_one_of keywords w = list_any (bytes_eq w.bytes) keywords

-- a token that is no keyword
abbrev pub is_word : Word → Bool
is_word w = not (list_any (λ b. b == 36) w.bytes)

-- a token with which a statement ends
abbrev pub ends_statement : Word → Bool
ends_statement w = is_one_of (codes "$." ∷ codes "${" ∷ codes "$}" ∷ []) w

-- a statement is its tokens in order
abbrev pub Statement : Type 0
Statement = List Word

-- the tokens of the statement that is not ended yet
abbrev pub unended : List Word → Statement
unended [] = []
unended (w ∷ before) = if ends_statement w then [] else unended before ++ w ∷ []

-- the statements that are ended, the nearest first
abbrev pub ended : List Word → List Statement
ended [] = []
ended (w ∷ before) = if ends_statement w then (unended before ++ w ∷ []) ∷ ended before else ended before

-- the statements of a text, in order
abbrev pub statements : List ℕ → List Statement
statements text = reverse (ended (reverse (tokens text)))

-- the words before the keyword: one label at most, where the text has no fault
abbrev pub labels_in : Statement → List Word
labels_in s = take_while is_word s

-- from the keyword on
abbrev pub body : Statement → List Word
body s = drop (prefix_len is_word s) s

-- its keyword is this one
abbrev pub has_keyword : List ℕ → Statement → Bool
has_keyword k s = list_any (is k) (take 1 (body s))

-- its keyword is one of these
abbrev pub has_one_of : List (List ℕ) → Statement → Bool
has_one_of ks s = list_any (is_one_of ks) (take 1 (body s))

-- its symbols: the words behind the keyword
abbrev pub symbols_in : Statement → List (List ℕ)
symbols_in s = map (λ w. w.bytes) (take_while is_word (drop 1 (body s)))

-- it has come to the `$=` behind which a proof stands
abbrev pub in_proof : Statement → Bool
in_proof s = list_any (is (codes "$=")) s

-- ---- scopes (Metamath book, section 4.2)

-- the blocks that are open behind these statements, the innermost first, each by the number of its `${`
abbrev pub path : List Statement → List ℕ
path [] = []
path (s ∷ before) =
    if has_keyword (codes "${") s then length before ∷ path before
    else (if has_keyword (codes "$}") s then drop 1 (path before) else path before)

-- the statements each of whose open blocks is one of these
abbrev pub active_on : List ℕ → List Statement → List Statement
active_on p [] = []
active_on p (s ∷ before) = if ends_with nat_eq p (path before) then s ∷ active_on p before else active_on p before

-- the statements that are active behind all of them: each block that was open there is still open
abbrev pub active : List Statement → List Statement
active before = active_on (path before) before

-- those with this keyword
abbrev pub with_keyword : List ℕ → List Statement → List Statement
with_keyword k ss = filter (has_keyword k) ss

-- the declared constants; `$c` stands in no block
abbrev pub constants : List Statement → List (List ℕ)
constants before = flat_map symbols_in (with_keyword (codes "$c") before)

-- the symbols that were declared as variables, also in blocks that are closed
abbrev pub variables_ever : List Statement → List (List ℕ)
variables_ever before = flat_map symbols_in (with_keyword (codes "$v") before)

-- the active variables
abbrev pub variables : List Statement → List (List ℕ)
variables before = flat_map symbols_in (with_keyword (codes "$v") (active before))

-- the second of some names, if there is one
abbrev pub second : List (List ℕ) → List (List ℕ)
second names = take 1 (drop 1 names)

-- the variables that an active `$f` gives a typecode
abbrev pub typed : List Statement → List (List ℕ)
typed before = flat_map (λ s. second (symbols_in s)) (with_keyword (codes "$f") (active before))

-- the labels of statements, in their order
abbrev pub labels : List Statement → List (List ℕ)
labels before = map (λ w. w.bytes) (flat_map labels_in before)

-- ---- the faults; a rule sees the tokens before, the nearest first, and the tokens behind

-- a test of a token by the tokens before it and behind it
abbrev pub Rule : Type 0
Rule = List Word → Word → List Word → Bool

-- the keywords of statements with a label
abbrev pub labelled : List (List ℕ)
labelled = codes "$f" ∷ codes "$e" ∷ codes "$a" ∷ codes "$p" ∷ []

-- the keywords of statements with a formula
abbrev pub asserting : List (List ℕ)
asserting = codes "$e" ∷ codes "$a" ∷ codes "$p" ∷ []

-- whether a word is a symbol of a statement with one of these keywords
abbrev pub is_symbol_of : List (List ℕ) → List Word → Word → Bool
is_symbol_of ks before w = is_word w && has_one_of ks (unended before) && not (in_proof (unended before))

-- how many symbols stand before a token in its statement
abbrev pub rank : List Word → ℕ
rank before = length (symbols_in (unended before))

-- whether a word is a label: a statement begins there
abbrev pub is_label : List Word → Word → Bool
is_label before w = is_word w && is_empty (unended before)

-- whether no symbol stands before it
abbrev pub is_first : List Word → Bool
is_first before = is_empty (symbols_in (unended before))

-- whether it is a constant, an active variable, a variable with an active `$f`, and a symbol that stands before in its statement
abbrev pub is_constant : List Word → Word → Bool
is_constant before w = contains (constants (ended before)) w.bytes

abbrev pub is_variable : List Word → Word → Bool
is_variable before w = contains (variables (ended before)) w.bytes

abbrev pub is_typed : List Word → Word → Bool
is_typed before w = contains (typed (ended before)) w.bytes

abbrev pub stands_in_statement : List Word → Word → Bool
stands_in_statement before w = contains (symbols_in (unended before)) w.bytes

-- 10: `$[`
abbrev pub include : Rule
include before w after = is (codes "$[") w

-- 11: `$c` while a block is open
abbrev pub const_in_block : Rule
const_in_block before w after = is (codes "$c") w && not (is_empty (path (ended before)))

-- 12: in `$c` a symbol declared before as anything, in `$v` one that is a constant or an active variable
abbrev pub redeclared : Rule
redeclared before w after =
    (is_symbol_of (codes "$c" ∷ []) before w
    && (is_constant before w || contains (variables_ever (ended before)) w.bytes || stands_in_statement before w))
    || (is_symbol_of (codes "$v" ∷ []) before w && (is_constant before w || is_variable before w || stands_in_statement before w))

-- 13: in `$e $a $p`, and first in `$f`, neither a constant nor an active variable; in `$d`, and second in `$f`, no active variable
abbrev pub not_active : Rule
not_active before w after =
    ((is_symbol_of asserting before w || (is_symbol_of (codes "$f" ∷ []) before w && is_first before))
    && not (is_constant before w) && not (is_variable before w))
    || ((is_symbol_of (codes "$d" ∷ []) before w || (is_symbol_of (codes "$f" ∷ []) before w && rank before == 1))
    && not (is_variable before w))

-- 14: in `$e $a $p`, past the first, a variable without an active `$f`
abbrev pub no_type : Rule
no_type before w after = is_symbol_of asserting before w && not (is_first before) && is_variable before w && not (is_typed before w)

-- 15: second in `$f`, a variable that has an active `$f`
abbrev pub two_types : Rule
two_types before w after = is_symbol_of (codes "$f" ∷ []) before w && rank before == 1 && is_typed before w

-- 16: first in `$f $e $a $p`, an active variable
abbrev pub first_not_const : Rule
first_not_const before w after = is_symbol_of labelled before w && is_first before && is_variable before w

-- 17: a label used before
abbrev pub label_taken : Rule
label_taken before w after = is_label before w && contains (labels (ended before)) w.bytes

-- the tokens of a statement so far are its label
abbrev pub is_label_alone : Statement → Bool
is_label_alone [] = false
is_label_alone (w ∷ []) = is_word w
is_label_alone (w ∷ v ∷ ws) = false

-- 18: `$f $e $a $p` without a label just before
abbrev pub label_missing : Rule
label_missing before w after = is_one_of labelled w && not (is_label_alone (unended before))

-- 19: a label whose next token is there and is none of `$f $e $a $p`
abbrev pub label_extra : Rule
label_extra before w after = is_label before w && list_any (λ v. not (is_one_of labelled v)) (take 1 after)

-- 20: a label with another byte than letters, digits, `-`, `_` and `.`
abbrev pub bad_label : Rule
bad_label before w after = is_label before w && not (list_all is_label_byte w.bytes)

-- 23: `$}` while no block is open
abbrev pub block_unopened : Rule
block_unopened before w after = is (codes "$}") w && is_empty (path (ended before))

-- 24: the end of a `$d` with fewer than two symbols
abbrev pub distinct_short : Rule
distinct_short before w after = is (codes "$.") w && has_keyword (codes "$d") (unended before) && nat_lt (rank before) 2

-- 25: in `$d` a symbol that stands before in it
abbrev pub distinct_twice : Rule
distinct_twice before w after = is_symbol_of (codes "$d" ∷ []) before w && stands_in_statement before w

-- 26: in `$c $v $e $a $p` no symbol before `$.` or `$=`
abbrev pub empty_formula : Rule
empty_formula before w after =
    is_one_of (codes "$." ∷ codes "$=" ∷ []) w && has_one_of (codes "$c" ∷ codes "$v" ∷ asserting) (unended before)
    && not (in_proof (unended before)) && is_first before

-- 27: the end of a `$f` with fewer than two symbols, or its third symbol
abbrev pub bad_hypothesis : Rule
bad_hypothesis before w after =
    (is (codes "$.") w && has_keyword (codes "$f") (unended before) && nat_lt (rank before) 2)
    || (is_symbol_of (codes "$f" ∷ []) before w && nat_le 2 (rank before))

-- 28: the end of a `$p` without `$=`
abbrev pub no_proof : Rule
no_proof before w after = is (codes "$.") w && has_keyword (codes "$p") (unended before) && not (in_proof (unended before))

-- whether a keyword can stand at the beginning of a statement, behind its label, and in it
abbrev pub can_stand : List Word → Word → Bool
can_stand before w =
    if is_empty (unended before) then is_one_of (codes "$c" ∷ codes "$v" ∷ codes "$d" ∷ codes "${" ∷ codes "$}" ∷ []) w
    else (if is_label_alone (unended before) then is_one_of labelled w
    else (is (codes "$.") w || (is (codes "$=") w && has_keyword (codes "$p") (unended before) && not (in_proof (unended before)))))

-- 29: any other keyword where it cannot stand
abbrev pub stray_token : Rule
stray_token before w after = not (is_word w) && not (can_stand before w)

-- the rules, the lower code first
abbrev pub token_rules : List (ℕ × Rule)
token_rules =
    (10, include) ∷ (11, const_in_block) ∷ (12, redeclared) ∷ (13, not_active) ∷ (14, no_type) ∷ (15, two_types)
    ∷ (16, first_not_const) ∷ (17, label_taken) ∷ (18, label_missing) ∷ (19, label_extra) ∷ (20, bad_label)
    ∷ (23, block_unopened) ∷ (24, distinct_short) ∷ (25, distinct_twice) ∷ (26, empty_formula) ∷ (27, bad_hypothesis)
    ∷ (28, no_proof) ∷ (29, stray_token) ∷ []

-- at the text's end: 21 in a statement or after a label, 22 while a block is open
abbrev pub end_fault : ℕ → List Word → Option Fault
end_fault len before =
    if not (is_empty (unended before)) then Some (fault len 21)
    else (if not (is_empty (path (ended before))) then Some (fault len 22) else None)

-- the first fault of the statements: at the first token where a rule holds, or else at the end
abbrev pub statement_fault : List ℕ → Option Fault
statement_fault text =
    or_else (first_fault_within (λ w. w.start) token_rules [] (tokens text)) (end_fault (length text) (reverse (tokens text)))

-- the first fault of a database: 30 where it is too long, else that of its tokens, else that of its statements
abbrev pub database_fault : List ℕ → Option Fault
database_fault text =
    if nat_lt most_database_bytes (length text) then Some (fault most_database_bytes 30) else or_else (token_fault text) (statement_fault text)
