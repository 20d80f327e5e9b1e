-- Lines and their tokens, computed.
use Rattle.std.specs.Prelude.{◌≡◌, true, false, [], ◌∷◌, ◌++◌, codes, map, refl}
use Rattle.sheet_text.specs.Lines.{line, lines, trim_end, lines_not_blank, line_past_end, begins, tokens}

pub no_line : lines [] ≡ []
no_line = refl

-- an LF at the very end begins no further line
pub two_lines : lines (codes "a" ++ 10 ∷ codes "b" ++ 10 ∷ []) ≡ codes "a" ∷ codes "b" ∷ []
two_lines = refl

-- the last line may lack its LF
pub last_open : lines (codes "a" ++ 10 ∷ 10 ∷ codes "b") ≡ codes "a" ∷ [] ∷ codes "b" ∷ []
last_open = refl

-- space, tab, CR and FF at the end are removed; those at the front stay
pub trimmed : trim_end (codes " a b " ++ 9 ∷ 13 ∷ 12 ∷ 32 ∷ []) ≡ codes " a b"
trimmed = refl

-- blank lines are passed over and counted
pub numbered : lines_not_blank (codes "a" ++ 10 ∷ codes "  " ++ 10 ∷ codes " b" ++ 13 ∷ 10 ∷ []) ≡ line 1 (codes "a") ∷ line 3 (codes " b") ∷ []
numbered = refl

pub past : line_past_end (codes "a" ++ 10 ∷ 10 ∷ []) ≡ 3
past = refl

pub column_1 : map begins (line 1 (codes "a") ∷ line 2 (codes " a") ∷ line 3 [] ∷ []) ≡ true ∷ false ∷ false ∷ []
column_1 = refl

pub two_tokens : tokens (line 1 (codes " |-  ph")) ≡ codes "|-" ∷ codes "ph" ∷ []
two_tokens = refl
