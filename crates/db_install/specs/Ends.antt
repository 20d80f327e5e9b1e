-- The end of a statement, from word to word. This is part of the proof, and not of the claim.
use Rattle.std.specs.Prelude.{ℕ, Bool, true, false, not, List, [], ◌∷◌, if◌then◌else◌, codes}
use Rattle.std.specs.List.{list_any}
use Rattle.std.specs.Str.{bytes_eq}
use Rattle.mm_model.specs.Words.{Word}
use Rattle.mm_model.specs.Tokens.{is_open_comment, is_close_comment}
use Rattle.install_model.specs.Installed.{byte_behind}

-- a statement ends with a word of these bytes
abbrev pub is_end : List ℕ → Bool
is_end bytes = list_any (bytes_eq bytes) (codes "$." ∷ codes "${" ∷ codes "$}" ∷ [])

-- the byte behind the first of these words with which a statement ends, in a comment or outside; 0 where there is none
abbrev pub end_from : Bool → List Word → ℕ
end_from in_comment [] = 0
end_from true (w ∷ ws) = end_from (not (is_close_comment w)) ws
end_from false (w ∷ ws) = if is_open_comment w then end_from true ws else (if is_end w.bytes then byte_behind w else end_from false ws)
