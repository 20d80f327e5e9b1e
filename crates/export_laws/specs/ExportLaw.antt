-- The worksheet of an exportable proof becomes finished.
use Rattle.std.specs.Prelude.{◌≡◌, ℕ, List, None}
use Rattle.mm_base.specs.declared.kinds.Kinds.{Kinds}
use Rattle.mm_model.specs.Book.{Database, IsDatabaseOf}
use Rattle.mm_model.specs.Names.{Name}
use Rattle.mm_model.specs.Statements.{database_fault}
use Rattle.proof_model.specs.declared.code.Code.{Code}
use Rattle.proof_model.specs.declared.theorem.Theorem.{Theorem}
use Rattle.written_model.specs.declared.options.Options.{Options}
use Rattle.written_model.specs.Written.{Answer, Answers}
use Rattle.export_model.specs.Exported.{export_sheet, export_text}
use Rattle.fitting_laws.specs.FitsAsWritten.{FitsAsWritten}
use Rattle.call_answers.specs.Finishes.{BecomesFinished}
use Rattle.call_answers.specs.Exports.{IsAccepted}
use Rattle.call_answers.specs.Exportable.{IsExportable}

-- an accepted proof that is exportable becomes a worksheet in which each step fits as it is given and none has a clash, and which
-- is finished, or has a fault of size
abbrev pub LawOfExport : Type 0
LawOfExport = (options : Options) (text : List ℕ) (db : Database) (name : Name) (theorem : Theorem) (code : Code) (answer : Answer)
    → database_fault text ≡ None → IsDatabaseOf options.kinds text db → IsAccepted text db name theorem code → IsExportable db theorem name code
    → Answers db (export_text db theorem name code) options answer → BecomesFinished db (export_sheet db theorem name code) answer

-- its worksheet fits as it is written
abbrev pub ExportedFits : Type 0
ExportedFits = (kinds : Kinds) (text : List ℕ) (db : Database) (name : Name) (theorem : Theorem) (code : Code) → database_fault text ≡ None → IsDatabaseOf kinds text db
    → IsAccepted text db name theorem code → IsExportable db theorem name code → FitsAsWritten db (export_sheet db theorem name code)
