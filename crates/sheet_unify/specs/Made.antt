-- What is made of a worksheet on the way to its answer.
use Rattle.std.specs.Prelude.{◌≡◌, ◌≤◌, ◌↔◌, ℕ, Bool, IsTrue, List}
use Rattle.mm_base.specs.declared.kinds.Kinds.{Kinds}
use Rattle.mm_base.specs.Limits.{most_work_size}
use Rattle.mm_model.specs.Book.{Database}
use Rattle.mm_database.specs.Opened.{Opened, IsOpened}
use Rattle.sheet_text.specs.declared.sheet.Sheet.{Sheet}
use Rattle.sheet_text.specs.Layout.{step_names}
use Rattle.solve_model.specs.declared.bound.Bound.{Bound}
use Rattle.solve_model.specs.Bound.{Binds, work_size}
use Rattle.solve_model.specs.Solutions.{Valuation}
use Rattle.solve_model.specs.Verdicts.{Judgement}
use Rattle.written_model.specs.declared.options.Options.{Options}
use Rattle.written_model.specs.WrittenSteps.{WrittenItem, steps_in, trees}
use Rattle.written_model.specs.Filled as filled
use Rattle.written_model.specs.Named.{Naming}
use Rattle.written_model.specs.ProofTrees.{Finished}
use Rattle.written_model.specs.Written.{Writing, Writes}
use Rattle.writing_laws.specs.HasLong.{AreShort}
use Rattle.writing_laws.specs.HasWriting.{IsSolved}
use Rattle.again_laws.specs.Second.{NumbersFit}
use Rattle.written_steps.specs.declared.draft.DraftItem.{DraftItem}
use Rattle.written_steps.specs.Drafts.{book, items_in, AreSound}
use Rattle.step_naming.specs.Named.{AreSmallLeaves, AreWrittenShort}
use Rattle.sheet_unify.specs.Answered.{SaysSheet}

-- the text says the sheet, which is bound within the limit
pub record IsBoundSheet (db : Database) (text : List ℕ) (sheet : Sheet) (bound : Bound) : Type 0 where
  pub says : SaysSheet text sheet
  pub binds : Binds db sheet bound
  pub within_limit : work_size db bound ≤ most_work_size

-- the database was opened from some text with these kinds
pub record HasText (kinds : Kinds) (d : Opened) : Type 0 where
  pub database : List ℕ
  pub opened : IsOpened kinds database d

-- some text says the sheet
pub record IsSaid (sheet : Sheet) : Type 0 where
  pub text : List ℕ
  pub says : SaysSheet text sheet

-- the database is that of some text, and the worksheet that of some text, bound over that database
pub record HasTexts (kinds : Kinds) (d : Opened) (sheet : Sheet) (bound : Bound) : Type 0 where
  pub database : List ℕ
  pub text : List ℕ
  pub opened : IsOpened kinds database d
  pub bound_sheet : IsBoundSheet (book kinds database d) text sheet bound

-- a fact of each text of the database and each of the worksheet
abbrev pub ForTexts : Kinds → Opened → Sheet → Bound → (Database → List ℕ → Type 0) → Type 0
ForTexts kinds d sheet bound P = (database text : List ℕ) → IsOpened kinds database d → IsBoundSheet (book kinds database d) text sheet bound → P (book kinds database d) text

-- ---- filled steps

abbrev pub filled_of : Sheet → Bound → List Judgement → Valuation → List WrittenItem
filled_of sheet bound judgements value = filled.filled_items (step_names sheet) bound value judgements sheet.items

-- the steps are judged, and the items are what they are filled to; no formula is too long
pub record IsFilled (db : Database) (d : Opened) (text : List ℕ) (sheet : Sheet) (bound : Bound) (items : List DraftItem) : Type 0 where
  pub judgements : List Judgement
  pub value : Valuation
  pub solved : IsSolved db text sheet bound judgements value
  pub items_are : items_in d items ≡ filled_of sheet bound judgements value
  pub short : AreShort db (trees (steps_in (items_in d items)))

-- each use is of a usable assertion, and each fresh leaf has a small number
pub record IsFilledSound (d : Opened) (items : List DraftItem) : Type 0 where
  pub sound : AreSound d items
  pub small : AreSmallLeaves (trees (steps_in (items_in d items)))

-- ---- written steps

abbrev pub made_of : Sheet → Bound → List Judgement → Valuation → Naming → List WrittenItem → Bool → Writing
made_of read bound judgements value names items finished =
    record { read = read; bound = bound; judgements = judgements; value = value; names = names; items = items; finished = finished }

-- the items are what the worksheet becomes, whether it is finished or not, and no filled formula is too long
pub record IsDraft (db : Database) (d : Opened) (text : List ℕ) (options : Options) (sheet : Sheet) (bound : Bound) (items : List DraftItem) : Type 0 where
  pub judgements : List Judgement
  pub value : Valuation
  pub names : Naming
  pub writes : (finished : Bool) → (IsTrue finished ↔ Finished options.dv bound.pairs (steps_in (items_in d items)))
      → Writes db text options (made_of sheet bound judgements value names (items_in d items) finished)
  pub fit : NumbersFit names
  pub short : AreShort db (trees (steps_in (filled_of sheet bound judgements value)))

-- each use is of a usable assertion, and each formula can be read again
pub record IsDraftSound (d : Opened) (items : List DraftItem) : Type 0 where
  pub sound : AreSound d items
  pub short : AreWrittenShort d (steps_in (items_in d items))
