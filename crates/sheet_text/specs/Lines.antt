-- The lines of a worksheet.
use Rattle.std.specs.Prelude.{ℕ, suc, Bool, false, not, ◌==◌, List, [], ◌∷◌, length, if◌then◌else◌, map, filter, flat_map}
use Rattle.std.specs.List.{onto_first}
use Rattle.mm_model.specs.Words.{is_white, words}

-- the parts of a text that LF ends; the last may lack it, and none follows an LF at the very end
abbrev pub lines : List ℕ → List (List ℕ)
lines [] = []
lines (b ∷ bs) = if b == 10 then [] ∷ lines bs else onto_first b (lines bs)

-- a byte before bytes that end with none of white space
abbrev pub before_trimmed : ℕ → List ℕ → List ℕ
before_trimmed b [] = if is_white b then [] else b ∷ []
before_trimmed b (c ∷ cs) = b ∷ c ∷ cs

-- the bytes without the white space at their end
abbrev pub trim_end : List ℕ → List ℕ
trim_end [] = []
trim_end (b ∷ bs) = before_trimmed b (trim_end bs)

-- a line, with its number
pub record Line : Type 0 where
  pub number : ℕ
  pub bytes : List ℕ

abbrev pub line : ℕ → List ℕ → Line
line number bytes = record { number = number; bytes = bytes }

-- the lines with their numbers, without the white space at their ends
abbrev pub numbered_from : ℕ → List (List ℕ) → List Line
numbered_from n [] = []
numbered_from n (bytes ∷ more) = line n (trim_end bytes) ∷ numbered_from (suc n) more

abbrev pub is_blank : Line → Bool
is_blank l = length l.bytes == 0

-- the lines of a text that are not blank, numbered from 1
abbrev pub lines_not_blank : List ℕ → List Line
lines_not_blank text = filter (λ l. not (is_blank l)) (numbered_from 1 (lines text))

-- the number of lines, plus one
abbrev pub line_past_end : List ℕ → ℕ
line_past_end text = suc (length (lines text))

-- the first byte is there and is not white space
abbrev pub first_is_not_white : List ℕ → Bool
first_is_not_white [] = false
first_is_not_white (b ∷ bs) = not (is_white b)

-- the line begins in column 1
abbrev pub begins : Line → Bool
begins l = first_is_not_white l.bytes

-- the runs of bytes that are not white space
abbrev pub tokens : Line → List (List ℕ)
tokens l = map (λ w. w.bytes) (words l.bytes)

abbrev pub tokens_of : List Line → List (List ℕ)
tokens_of ls = flat_map tokens ls
