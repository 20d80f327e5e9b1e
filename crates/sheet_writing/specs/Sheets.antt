-- The worksheet that is written for a draft.
use Rattle.std.specs.Prelude.{List, [], ◌∷◌, map, slice_index_or, Option}
use Rattle.mm_base.specs.declared.symbols.Pair.{Pair}
use Rattle.mm_base.specs.declared.symbols.Sym.{Sym}
use Rattle.mm_base.specs.declared.tree.Tree.{Tree}
use Rattle.mm_model.specs.declared.rows.Leaf.{Leaf}
use Rattle.mm_model.specs.declared.rows.Leaf.TheVariants as leaf
use Rattle.mm_model.specs.Names.{Name}
use Rattle.mm_model.specs.Texts.{text}
use Rattle.mm_model.specs.Book.{Database}
use Rattle.mm_database.specs.Opened.{Opened}
use Rattle.sheet_text.specs.declared.sheet.Sheet.{Sheet}
use Rattle.sheet_text.specs.declared.sheet.SheetItem.{SheetItem}
use Rattle.sheet_text.specs.declared.sheet.SheetItem.TheVariants as item
use Rattle.sheet_text.specs.declared.sheet.SheetStep.{SheetStep}
use Rattle.sheet_text.specs.declared.sheet.PairLine.{PairLine}
use Rattle.solve_model.specs.Formulas.{spelling}
use Rattle.written_model.specs.WrittenSteps.{WrittenItem}
use Rattle.written_model.specs.Written.{written_item, written_pair}
use Rattle.written_steps.specs.declared.draft.DraftStep.{DraftStep}
use Rattle.written_steps.specs.declared.draft.DraftItem.{DraftItem}
use Rattle.written_steps.specs.declared.draft.DraftItem.TheVariants as draft

-- ---- by the definitions

-- the worksheet of a theorem with these comments, steps and pairs
abbrev pub sheet_of : Database → Name → Option Name → List WrittenItem → List Pair → Sheet
sheet_of db theorem loc items pairs = record { line = 0; theorem = theorem; loc = loc; items = map (written_item db) items; pairs = map (written_pair db) pairs }

-- ---- by what is kept of an opened database

abbrev pub name_at : List Name → Sym → Name
name_at symbols s = slice_index_or symbols s.0 []

abbrev pub leaf_in : List Name → Leaf → Name
leaf_in symbols (leaf.Const s) = name_at symbols s
leaf_in symbols (leaf.Var s c) = name_at symbols s
leaf_in symbols (leaf.Work c n) = spelling (name_at symbols c.0) n

abbrev pub tokens_in : Opened → Name → Tree → List Name
tokens_in d provable t = provable ∷ map (leaf_in d.contents.symbols) (text d.rows t)

abbrev pub step_with : DraftStep → List Name → SheetStep
step_with s formula = record { line = 0; hyp = s.hyp; name = s.name; places = s.places; reference = s.reference; formula = formula }

abbrev pub sheet_item : Opened → Name → DraftItem → SheetItem
sheet_item d provable (draft.Comment lines) = item.Comment lines
sheet_item d provable (draft.Step s) = item.Step (step_with s (tokens_in d provable s.tree))

abbrev pub pair_line : List Name → Pair → PairLine
pair_line symbols p = record { line = 0; names = name_at symbols p.a ∷ name_at symbols p.b ∷ [] }

abbrev pub sheet_in : Opened → Name → Name → Option Name → List DraftItem → List Pair → Sheet
sheet_in d provable theorem loc items pairs = record { line = 0; theorem = theorem; loc = loc; items = map (sheet_item d provable) items; pairs = map (pair_line d.contents.symbols) pairs }
