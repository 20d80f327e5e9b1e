-- The statements of a worksheet.
use Rattle.std.specs.Prelude.{ℕ, Bool, true, false, not, ◌&&◌, ◌==◌, List, [], ◌∷◌, if◌then◌else◌, take_while, slice_get, Option, Some, None, codes}
use Rattle.std.specs.List.{last_or}
use Rattle.std.specs.Str.{bytes_eq}
use Rattle.sheet_text.specs.Lines.{Line, begins, tokens, tokens_of, lines_not_blank}

-- a token is there and is this word
abbrev pub is_word : List ℕ → Option (List ℕ) → Bool
is_word w None = false
is_word w (Some t) = bytes_eq t w

-- the line begins in column 1 with the token `$=`
abbrev pub opens_proof : Line → Bool
opens_proof l = begins l && is_word (codes "$=") (slice_get (tokens l) 0)

-- the line's last token is `$.`
abbrev pub ends_proof : Line → Bool
ends_proof l = is_word (codes "$.") (last_or None (tokens l))

-- a statement: its first line, which begins in column 1, and the lines behind it
pub record Statement : Type 0 where
  pub opening : Line
  pub more : List Line

abbrev pub statement : Line → List Line → Statement
statement opening more = record { opening = opening; more = more }

-- A line that begins in column 1 and the following lines that do not are a statement. A proof runs to its first line that ends it;
-- of a proof the statement holds the first line alone, and the lines of its contents are passed over.
abbrev pub statements_where : Bool → List Line → List Statement
statements_where in_proof [] = []
statements_where true (l ∷ ls) = statements_where (not (ends_proof l)) ls
statements_where false (l ∷ ls) =
    if opens_proof l then statement l [] ∷ statements_where (not (ends_proof l)) ls
    else (if begins l then statement l (take_while (λ m. not (begins m)) ls) ∷ statements_where false ls
    else statements_where false ls)

abbrev pub statements : List ℕ → List Statement
statements text = statements_where false (lines_not_blank text)

-- the number of its first line
abbrev pub line_of : Statement → ℕ
line_of s = s.opening.number

abbrev pub tokens_in : Statement → List (List ℕ)
tokens_in s = tokens_of (s.opening ∷ s.more)

abbrev pub opens_with : List ℕ → Statement → Bool
opens_with w s = is_word w (slice_get (tokens_in s) 0)

abbrev pub is_footer : Statement → Bool
is_footer s = opens_with (codes "$)") s

abbrev pub is_distinct : Statement → Bool
is_distinct s = opens_with (codes "$d") s

abbrev pub is_proof : Statement → Bool
is_proof s = opens_with (codes "$=") s

abbrev pub starts_with_star : List ℕ → Bool
starts_with_star [] = false
starts_with_star (b ∷ bs) = b == 42

abbrev pub is_comment : Statement → Bool
is_comment s = starts_with_star s.opening.bytes
