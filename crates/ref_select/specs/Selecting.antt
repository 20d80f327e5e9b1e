-- The answer to a written worksheet of which one step is asked about.
use Rattle.std.specs.Prelude.{◌≡◌, ℕ, true, false, List, map, filter_map, find, Option, Some, None}
use Rattle.std.specs.List.{AllZip}
use Rattle.std.specs.Str.{bytes_eq}
use Rattle.mm_base.specs.declared.kinds.Kinds.{Kinds}
use Rattle.mm_base.specs.declared.symbols.Pair.{Pair}
use Rattle.mm_base.specs.declared.tree.Tree.{Tree}
use Rattle.mm_model.specs.Names.{Name}
use Rattle.mm_model.specs.Book.{Database}
use Rattle.mm_database.specs.Books.{database_of}
use Rattle.mm_database.specs.Opened.{Opened, IsOpened}
use Rattle.sheet_text.specs.declared.sheet.SheetItem.{SheetItem}
use Rattle.sheet_text.specs.declared.sheet.SheetStep.{SheetStep}
use Rattle.sheet_text.specs.Layout.{step_of_item}
use Rattle.written_model.specs.declared.options.DvMode.{DvMode}
use Rattle.written_model.specs.declared.options.Options.{Options}
use Rattle.written_model.specs.Fitting.{AreFitting}
use Rattle.written_model.specs.Written.{Writing, Answers, wrote, written_item}
use Rattle.written_model.specs.WrittenSteps.{WrittenStep, steps_in, trees}
use Rattle.select_model.specs.Selected.{SelectAnswer, Selects, no_such_step, step_open, fits, is_closed}
use Rattle.ref_select.specs.declared.written.Selection.{Selection}
use Rattle.ref_select.specs.declared.written.Selection.TheVariants as selection
use Rattle.ref_select.specs.declared.written.WrittenSheet.{WrittenSheet}

-- what is asked of a step is that of a written one
pub record IsWrittenAs (s : SheetStep) (e : WrittenStep) : Type 0 where
  pub hyp : s.hyp ≡ e.hyp
  pub name : s.name ≡ e.name
  pub places : s.places ≡ e.places

-- the steps among the items are these written ones, and have these trees
pub record AreWrittenAs (items : List SheetItem) (ts : List Tree) (es : List WrittenStep) : Type 0 where
  pub each : AllZip IsWrittenAs (filter_map step_of_item items) es
  pub trees_are : ts ≡ trees es

-- there is no such step; it is open; or these are all labels that fit it
abbrev pub IsSelection : Database → ℕ → DvMode → List Pair → List WrittenStep → Option WrittenStep → Selection → Type 0
IsSelection db place mode allowed es None selection.NoSuchStep = Unit {0}
IsSelection db place mode allowed es None selection.StepOpen = ⊥
IsSelection db place mode allowed es None (selection.Fits ls) = ⊥
IsSelection db place mode allowed es (Some e) selection.NoSuchStep = ⊥
IsSelection db place mode allowed es (Some e) selection.StepOpen = is_closed es e ≡ false
IsSelection db place mode allowed es (Some e) (selection.Fits ls) = (is_closed es e ≡ true) × AreFitting db place mode allowed es e ls

-- so for whatever written steps they are, in each text from which the database is opened
abbrev pub IsAnswer : Opened → WrittenSheet → Name → Selection → Type 0
IsAnswer d w name s =
    (kinds : Kinds) (text : List ℕ) (es : List WrittenStep) → IsOpened kinds text d → AreWrittenAs w.items.now w.trees.now es
    → IsSelection (database_of kinds text d.rows d.parsed) w.place w.mode w.given.now es (find (λ (e : WrittenStep). bytes_eq e.name name) es) s

-- ---- the answer to the worksheet that was read

-- its place, pairs, items and trees are those of what a worksheet becomes
pub record IsOfWriting (db : Database) (options : Options) (w : Writing) (written : WrittenSheet) : Type 0 where
  pub place : written.place ≡ w.bound.place
  pub mode : written.mode ≡ options.dv
  pub given : written.given.now ≡ w.bound.pairs
  pub items : written.items.now ≡ map (written_item db) w.items
  pub trees_are : written.trees.now ≡ trees (steps_in w.items)

abbrev pub answer_of : Selection → SelectAnswer
answer_of selection.NoSuchStep = no_such_step
answer_of selection.StepOpen = step_open
answer_of (selection.Fits ls) = fits ls

-- what is answered of a written worksheet is the answer to the worksheet that was read
abbrev pub SelectionIsTheAnswer : Type 0
SelectionIsTheAnswer = (kinds : Kinds) (text : List ℕ) (d : Opened) (options : Options) (sheet : List ℕ) (w : Writing) (written : WrittenSheet) (name : Name) (s : Selection)
    → IsOpened kinds text d → Answers (database_of kinds text d.rows d.parsed) sheet options (wrote w) → IsOfWriting (database_of kinds text d.rows d.parsed) options w written
    → IsAnswer d written name s → Selects (database_of kinds text d.rows d.parsed) options sheet name (answer_of s)
