-- Worksheets of examples, by their lines.
use Rattle.std.specs.Prelude.{ℕ, List, [], ◌∷◌, ◌++◌, None, unwrap_or, codes}
use Rattle.mm_model.specs.Names.{Name}
use Rattle.sheet_text.specs.declared.sheet.Sheet.{Sheet}
use Rattle.sheet_text.specs.ReadsExamples.{text}
use Rattle.sheet_text.specs.Reads.{sheet_in}
use Rattle.sheet_text.specs.SheetStatements.{statements}

abbrev no_sheet : Sheet
no_sheet = record { line = 0; theorem = []; loc = None; items = []; pairs = [] }

-- the text with a theorem's name, what stands behind LOC_AFTER, and the lines between header and footer
abbrev pub sheet_text : Name → Name → List (List ℕ) → List ℕ
sheet_text name loc ls = text ((codes "$( <MM> <PROOF_ASST> THEOREM=" ++ name ++ codes " LOC_AFTER=" ++ loc) ∷ ls ++ codes "$)" ∷ [])

-- the worksheet that this text says
abbrev pub sheet_after : Name → Name → List (List ℕ) → Sheet
sheet_after name loc ls = unwrap_or (sheet_in (statements (sheet_text name loc ls))) no_sheet

abbrev pub sheet : Name → List (List ℕ) → Sheet
sheet name ls = sheet_after name (codes "?") ls
