-- The answer to the worksheet of an accepted proof says all that is said of `export`.
use Rattle.std.specs.Prelude.{◌≡◌, ℕ, List, None}
use Rattle.call_answers.specs.declared.ending.Ending.{Ending}
use Rattle.call_answers.specs.Exports.{Exports, GivesExport, IsAccepted}
use Rattle.export_model.specs.Exported.{export_text}
use Rattle.mm_model.specs.Book.{Database, IsDatabaseOf}
use Rattle.mm_model.specs.Names.{Name}
use Rattle.mm_model.specs.Statements.{database_fault}
use Rattle.proof_model.specs.declared.code.Code.{Code}
use Rattle.proof_model.specs.declared.theorem.Theorem.{Theorem}
use Rattle.written_model.specs.declared.options.Options.{Options}
use Rattle.written_model.specs.Written.{Answer, Answers}

-- a call that gives the answer to the worksheet of an accepted proof exports: what is printed carries a proof that is accepted, and
-- again it is written as it is; and the worksheet of an exportable proof is finished, but for its size
abbrev pub AnswerIsExported : List ℕ → Database → Options → Name → Theorem → Code → Answer → Ending → Type 0
AnswerIsExported text db options name theorem code answer end =
    database_fault text ≡ None → IsDatabaseOf options.kinds text db → IsAccepted text db name theorem code → Answers db (export_text db theorem name code) options answer
    → GivesExport db options name answer end → Exports db options name theorem code end
