-- What a worksheet's text says.
use Rattle.std.specs.Prelude.{◌≡◌, ℕ, not, List, [], ◌∷◌, ◌++◌, map, if◌then◌else◌, filter_map, take_while, unwrap_or, Option, Some, None}
use Rattle.std.specs.Str.{bytes_eq}
use Rattle.mm_model.specs.Names.{first_number}
use Rattle.sheet_text.specs.declared.sheet.Given.{Given}
use Rattle.sheet_text.specs.declared.sheet.Given.TheVariants as given
use Rattle.sheet_text.specs.declared.sheet.SheetStep.{SheetStep}
use Rattle.sheet_text.specs.declared.sheet.SheetItem.{SheetItem}
use Rattle.sheet_text.specs.declared.sheet.SheetItem.TheVariants as item
use Rattle.sheet_text.specs.declared.sheet.PairLine.{PairLine}
use Rattle.sheet_text.specs.declared.sheet.Sheet.{Sheet}
use Rattle.sheet_text.specs.Lines.{Line}
use Rattle.sheet_text.specs.SheetStatements.{Statement, statements, line_of, tokens_in, is_footer, is_distinct, is_comment}
use Rattle.sheet_text.specs.Forms.{Header, StepForm, header_of}
use Rattle.sheet_text.specs.TextFaults.{step_in, symbols_of, line_fault}

-- a place names an earlier step; it is kept as that step's number among the steps, from 0
abbrev pub given_of : List (List ℕ) → Option (List ℕ) → Given
given_of names None = given.Gap
given_of names (Some name) = given.Step (unwrap_or (first_number (bytes_eq name) names) 0)

abbrev pub step_at : ℕ → List (List ℕ) → StepForm → SheetStep
step_at line names f = record { line = line; hyp = f.hyp; name = f.name; places = map (given_of names) f.entries; reference = f.reference; formula = f.formula }

abbrev pub comment_of : Statement → SheetItem
comment_of s = item.Comment (map (λ (l : Line). l.bytes) (s.opening ∷ s.more))

-- the comments and steps, where the steps before have these names
abbrev pub items_at : List (List ℕ) → Statement → Option StepForm → (List (List ℕ) → List SheetItem) → List SheetItem
items_at names s None more = if is_comment s then comment_of s ∷ more names else more names
items_at names s (Some f) more = item.Step (step_at (line_of s) names f) ∷ more (names ++ f.name ∷ [])

abbrev pub items_from : List Statement → List (List ℕ) → List SheetItem
items_from [] names = []
items_from (s ∷ ss) names = items_at names s (step_in s) (items_from ss)

abbrev pub pairs_at : Statement → Option PairLine
pairs_at s = if is_distinct s then Some (record { line = line_of s; names = symbols_of (tokens_in s) }) else None

abbrev pub sheet_with : ℕ → Option Header → List Statement → Option Sheet
sheet_with line None ss = None
sheet_with line (Some h) ss = Some (record { line = line; theorem = h.theorem; loc = h.loc; items = items_from ss []; pairs = filter_map pairs_at ss })

-- the header, and the statements behind it up to the footer
abbrev pub sheet_in : List Statement → Option Sheet
sheet_in [] = None
sheet_in (s ∷ ss) = sheet_with (line_of s) (header_of (tokens_in s)) (take_while (λ t. not (is_footer t)) ss)

-- the text has no fault of 40 to 49, and reads as the sheet; whether it is too long is judged before it is read
pub record Reads (text : List ℕ) (sheet : Sheet) : Type 0 where
  pub sound : line_fault text ≡ None
  pub says : sheet_in (statements text) ≡ Some sheet

abbrev pub unnumbered_item : SheetItem → SheetItem
unnumbered_item (item.Comment lines) = item.Comment lines
unnumbered_item (item.Step s) = item.Step (record s { line = 0 })

abbrev pub unnumbered_pairs : PairLine → PairLine
unnumbered_pairs p = record p { line = 0 }

-- the sheet with 0 for each line number
abbrev pub unnumbered : Sheet → Sheet
unnumbered s = record { line = 0; theorem = s.theorem; loc = s.loc; items = map unnumbered_item s.items; pairs = map unnumbered_pairs s.pairs }

-- the text reads as the sheet, but for the numbers of lines
pub record ReadsAs (text : List ℕ) (sheet : Sheet) : Type 0 where
  pub read : Sheet
  pub reads : Reads text read
  pub same : unnumbered read ≡ unnumbered sheet
