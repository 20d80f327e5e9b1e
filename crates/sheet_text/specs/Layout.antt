-- The text that a worksheet is written as.
use Rattle.std.specs.Prelude.{ℕ, List, [], ◌∷◌, ◌++◌, map, if◌then◌else◌, flat_map, filter_map, slice_index_or, Option, Some, None, unwrap_or, codes}
use Rattle.std.specs.List.{join_with_byte}
use Rattle.sheet_text.specs.declared.sheet.Given.{Given}
use Rattle.sheet_text.specs.declared.sheet.Given.TheVariants as given
use Rattle.sheet_text.specs.declared.sheet.SheetStep.{SheetStep}
use Rattle.sheet_text.specs.declared.sheet.SheetItem.{SheetItem}
use Rattle.sheet_text.specs.declared.sheet.SheetItem.TheVariants as item
use Rattle.sheet_text.specs.declared.sheet.PairLine.{PairLine}
use Rattle.sheet_text.specs.declared.sheet.Sheet.{Sheet}

-- a line, ended by LF
abbrev pub ended : List ℕ → List ℕ
ended bytes = bytes ++ 10 ∷ []

-- tokens parted by one space
abbrev pub spaced : List (List ℕ) → List ℕ
spaced tokens = join_with_byte 32 tokens

abbrev pub header_line : Sheet → List ℕ
header_line s = spaced (codes "$(" ∷ codes "<MM>" ∷ codes "<PROOF_ASST>" ∷ (codes "THEOREM=" ++ s.theorem) ∷ (codes "LOC_AFTER=" ++ unwrap_or s.loc (codes "?")) ∷ [])

-- the steps of a sheet, in order
abbrev pub step_of_item : SheetItem → Option SheetStep
step_of_item (item.Comment lines) = None
step_of_item (item.Step s) = Some s

abbrev pub steps : Sheet → List SheetStep
steps s = filter_map step_of_item s.items

abbrev pub step_names : Sheet → List (List ℕ)
step_names s = map (λ (t : SheetStep). t.name) (steps s)

-- a place as the name of its step, where the steps have these names
abbrev pub place_text : List (List ℕ) → Given → List ℕ
place_text names given.Gap = codes "?"
place_text names (given.Step k) = slice_index_or names k []

-- the token `name:places:reference`, with the `h` of a hypothesis
abbrev pub step_token : List (List ℕ) → SheetStep → List ℕ
step_token names s =
    (if s.hyp then codes "h" else []) ++ s.name ++ 58 ∷ join_with_byte 44 (map (place_text names) s.places) ++ 58 ∷ unwrap_or s.reference []

abbrev pub item_lines : List (List ℕ) → SheetItem → List (List ℕ)
item_lines names (item.Comment lines) = lines
item_lines names (item.Step s) = spaced (step_token names s ∷ s.formula) ∷ []

abbrev pub pair_line : PairLine → List ℕ
pair_line p = spaced (codes "$d" ∷ p.names)

abbrev pub proof_lines : Option (List ℕ) → List (List ℕ)
proof_lines None = []
proof_lines (Some proof) = spaced (codes "$=" ∷ proof ∷ codes "$." ∷ []) ∷ []

-- the header, the comments and steps, the proof where there is one, the `$d` statements and the footer
abbrev pub lines_of : Sheet → Option (List ℕ) → List (List ℕ)
lines_of s proof =
    header_line s ∷ flat_map (item_lines (step_names s)) s.items ++ proof_lines proof ++ map pair_line s.pairs ++ codes "$)" ∷ []

-- the text of a sheet with its proof, where it has one
abbrev pub layout : Sheet → Option (List ℕ) → List ℕ
layout s proof = flat_map ended (lines_of s proof)
