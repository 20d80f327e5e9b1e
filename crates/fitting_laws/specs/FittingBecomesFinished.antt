-- What worksheets become that fit as they are written.
use Rattle.std.specs.Prelude.{◌≡◌, ℕ, List, None}
use Rattle.call_answers.specs.Finishes.{BecomesFinished}
use Rattle.mm_model.specs.Statements.{database_fault}
use Rattle.mm_model.specs.Book.{Database, IsDatabaseOf}
use Rattle.sheet_text.specs.declared.sheet.Sheet.{Sheet}
use Rattle.sheet_text.specs.Layout.{layout}
use Rattle.written_model.specs.declared.options.Options.{Options}
use Rattle.written_model.specs.Written.{Answer, Answers}
use Rattle.fitting_laws.specs.FitsAsWritten.{FitsAsWritten}

-- a worksheet that fits as it is written, laid out, becomes finished
abbrev pub FittingBecomesFinished : Type 0
FittingBecomesFinished = (options : Options) (text : List ℕ) (db : Database) (sheet : Sheet) (answer : Answer)
    → database_fault text ≡ None → IsDatabaseOf options.kinds text db → FitsAsWritten db sheet
    → Answers db (layout sheet None) options answer → BecomesFinished db sheet answer
