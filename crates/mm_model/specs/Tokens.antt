-- Comments, tokens and the four faults of tokens (Metamath book, section 4.1).
use Rattle.std.specs.Prelude.{ℕ, Bool, true, false, not, ◌&&◌, ◌||◌, ◌==◌, List, [], ◌∷◌, length, nat_le, Option, Some, None, if◌then◌else◌, position, option_map, reverse, codes}
use Rattle.std.specs.List.{list_any}
use Rattle.std.specs.Str.{bytes_eq}
use Rattle.mm_model.specs.Words.{Word, words, is_white}
use Rattle.mm_model.specs.Faults.{Fault, fault, earlier, or_else, first_fault}

-- the keywords
abbrev pub keywords : List (List ℕ)
keywords =
    codes "$c" ∷ codes "$v" ∷ codes "$d" ∷ codes "$f" ∷ codes "$e" ∷ codes "$a" ∷ codes "$p" ∷ codes "$=" ∷ codes "$."
    ∷ codes "${" ∷ codes "$}" ∷ codes "$(" ∷ codes "$)" ∷ codes "$[" ∷ codes "$]" ∷ []

-- the words that open and close a comment
abbrev pub is_open_comment : Word → Bool
is_open_comment w = bytes_eq w.bytes (codes "$(")

abbrev pub is_close_comment : Word → Bool
is_close_comment w = bytes_eq w.bytes (codes "$)")

-- a word with a dollar that is no keyword
abbrev pub is_bad_keyword : Word → Bool
is_bad_keyword w = list_any (λ b. b == 36) w.bytes && not (list_any (bytes_eq w.bytes) keywords)

-- a byte that a database may not have anywhere
abbrev pub is_bad_byte : ℕ → Bool
is_bad_byte b = not (is_white b) && not (nat_le 33 b && nat_le b 126)

-- the tokens: a comment, from `$(` to the next `$)`, is passed over
abbrev pub tokens_where : Bool → List Word → List Word
tokens_where in_comment [] = []
tokens_where true (w ∷ ws) = tokens_where (not (is_close_comment w)) ws
tokens_where false (w ∷ ws) = if is_open_comment w then tokens_where true ws else w ∷ tokens_where false ws

-- the tokens of a text: its words outside comments
abbrev pub tokens : List ℕ → List Word
tokens text = tokens_where false (words text)

-- whether a place is in a comment, by the words before it, the nearest first: the nearest of `$(` and `$)` is `$(`
abbrev pub in_comment : List Word → Bool
in_comment [] = false
in_comment (w ∷ ws) = if is_open_comment w then true else (if is_close_comment w then false else in_comment ws)

-- 3: `$(` in a comment
abbrev pub comment_in_comment : List Word → Word → Bool
comment_in_comment before w = in_comment before && is_open_comment w

-- 4: outside comments, `$)` or a word with a dollar that is no keyword
abbrev pub bad_keyword : List Word → Word → Bool
bad_keyword before w = not (in_comment before) && (is_close_comment w || is_bad_keyword w)

-- the rules, the lower code first
abbrev pub word_rules : List (ℕ × (List Word → Word → Bool))
word_rules = (3, comment_in_comment) ∷ (4, bad_keyword) ∷ []

-- 1: a byte that is neither white space nor 33 to 126, the first such
abbrev pub bad_byte : List ℕ → Option Fault
bad_byte text = option_map (λ at. fault at 1) (position is_bad_byte text)

-- 2: the text ends in a comment
abbrev pub open_comment : List ℕ → Option Fault
open_comment text = if in_comment (reverse (words text)) then Some (fault (length text) 2) else None

-- the first of 2, 3 and 4; no word begins at the text's length or past it
abbrev pub words_fault : List ℕ → Option Fault
words_fault text = or_else (first_fault (λ before w. w.start) word_rules [] (words text)) (open_comment text)

-- the first fault of the tokens: the one at the least byte, and at one byte the one of lower code
abbrev pub token_fault : List ℕ → Option Fault
token_fault text = earlier (bad_byte text) (words_fault text)
