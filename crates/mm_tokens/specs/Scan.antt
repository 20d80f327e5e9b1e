-- Reading from word to word, with the first fault that is met. This is part of the proof, and not of the claim.
use Rattle.std.specs.Prelude.{◌≡◌, ℕ, Bool, true, false, not, ◌&&◌, ◌||◌, ◌==◌, List, [], ◌∷◌, ◌++◌, Result, Ok, Err, if◌then◌else◌, nat_le}
use Rattle.mm_model.specs.Faults.{Fault, fault}
use Rattle.mm_model.specs.Words.{Word, is_white}
use Rattle.mm_model.specs.Tokens.{is_open_comment, is_close_comment, is_bad_keyword}
use Rattle.mm_tokens.specs.declared.token.Token.{Token}
use Rattle.mm_tokens.specs.declared.token.TokenFault.{TokenFault}
use Rattle.mm_tokens.specs.declared.token.TokenFault.TheVariants as faults
use Rattle.mm_tokens.specs.Tokens.{token_of}

-- what was read in front of what is read
abbrev pub with_front : List Token → Result (List Token) Fault → Result (List Token) Fault
with_front front (Ok ts) = Ok (front ++ ts)
with_front front (Err f) = Err f

abbrev pub read_words : Bool → ℕ → List Word → Result (List Token) Fault
read_words in_comment len [] = if in_comment then Err (fault len 2) else Ok []
read_words true len (w ∷ ws) = if is_open_comment w then Err (fault w.start 3) else read_words (not (is_close_comment w)) len ws
read_words false len (w ∷ ws) =
    if is_open_comment w then read_words true len ws else
    (if is_close_comment w || is_bad_keyword w then Err (fault w.start 4) else with_front (token_of w ∷ []) (read_words false len ws))

-- what the reader answers is what reading gives, unless memory runs out
abbrev pub FailsWith : TokenFault → Result (List Token) Fault → Type 0
FailsWith faults.Memory read = Unit {0}
FailsWith (faults.BadByte at) read = read ≡ Err (fault at 1)
FailsWith (faults.OpenComment at) read = read ≡ Err (fault at 2)
FailsWith (faults.CommentInComment at) read = read ≡ Err (fault at 3)
FailsWith (faults.BadKeyword at) read = read ≡ Err (fault at 4)

-- the error that is left where a bad byte stands too
abbrev pub first_of : ℕ → TokenFault → TokenFault
first_of bad faults.Memory = faults.Memory
first_of bad (faults.BadByte at) = if nat_le bad at then faults.BadByte bad else faults.BadByte at
first_of bad (faults.OpenComment at) = if nat_le bad at then faults.BadByte bad else faults.OpenComment at
first_of bad (faults.CommentInComment at) = if nat_le bad at then faults.BadByte bad else faults.CommentInComment at
first_of bad (faults.BadKeyword at) = if nat_le bad at then faults.BadByte bad else faults.BadKeyword at

-- a byte of a word that is no dollar
abbrev pub is_plain : ℕ → Bool
is_plain b = not (is_white b) && not (b == 36)

abbrev pub begins_with_dollar : List ℕ → Bool
begins_with_dollar [] = false
begins_with_dollar (b ∷ bs) = b == 36
