-- What `export` answers to a proof that is accepted: the worksheet of the proof, as it is unified.
use Rattle.std.specs.Prelude.{◌≡◌, ℕ, Bool, true, false, List, [], ◌∷◌, Some, None, codes}
use Rattle.call_answers.specs.declared.ending.Ending.{Ending}
use Rattle.call_answers.specs.Endings.{Refuses, Shows}
use Rattle.call_answers.specs.Exportable.{IsExportable}
use Rattle.call_answers.specs.Finishes.{BecomesFinished}
use Rattle.call_answers.specs.Verified.{theorem_named}
use Rattle.export_model.specs.Exported.{export_sheet, export_text}
use Rattle.fault_lines.specs.FaultLines.{refusal_line}
use Rattle.mm_base.specs.declared.status.Status.TheVariants as status
use Rattle.mm_model.specs.Book.{Database}
use Rattle.mm_model.specs.Names.{Name}
use Rattle.mm_model.specs.Statements.{statements}
use Rattle.proof_model.specs.declared.code.Code.{Code}
use Rattle.proof_model.specs.declared.theorem.Theorem.{Theorem}
use Rattle.proof_model.specs.DatabaseProofs.{proof_code_fault, IsCodeOf}
use Rattle.proof_model.specs.Machine.{Accepts}
use Rattle.sheet_text.specs.Layout.{spaced}
use Rattle.written_model.specs.declared.options.Options.{Options}
use Rattle.written_model.specs.ProvesItself.{ProvesItself, IsFixed}
use Rattle.written_model.specs.Written.{Writing, Answer, Answers, refused, wrote, frames_of}

-- the theorem with this label in a text, and the code of its proof, which is accepted
pub record IsAccepted (text : List ℕ) (db : Database) (name : Name) (theorem : Theorem) (code : Code) : Type 0 where
  pub words : List Name
  pub is_theorem : theorem_named (statements text) name ≡ Some (theorem, words)
  pub sound : proof_code_fault theorem.mandatory words ≡ None
  pub is_code : IsCodeOf theorem.mandatory words code
  pub accepts : Accepts (frames_of db) theorem code

-- `no worksheet LABEL`
abbrev pub no_worksheet_line : Name → List ℕ
no_worksheet_line name = spaced (codes "no" ∷ codes "worksheet" ∷ name ∷ [])

-- a worksheet is shown where it is finished
abbrev pub ShowsFinished : Database → Options → Name → Writing → Bool → Ending → Type 0
ShowsFinished db options name w true end = Shows db options w end
ShowsFinished db options name w false end = Refuses end status.Proof (no_worksheet_line name)

-- how the answer to the worksheet of a theorem is told
abbrev pub GivesExport : Database → Options → Name → Answer → Ending → Type 0
GivesExport db options name (refused r) end = Refuses end status.Proof (refusal_line r)
GivesExport db options name (wrote w) end = ShowsFinished db options name w w.finished end

-- the worksheet of a theorem and of its proof is unified over the database: what is printed is finished, carries a proof that is
-- accepted for it, and again it is written as it is; and that of an exportable proof is finished, but for its size
pub record Exports (db : Database) (options : Options) (name : Name) (theorem : Theorem) (code : Code) (end : Ending) : Type 0 where
  pub answer : Answer
  pub answers : Answers db (export_text db theorem name code) options answer
  pub gives : GivesExport db options name answer end
  pub proves : end.status ≡ status.Finished → ProvesItself db options end.out
  pub again : end.status ≡ status.Finished → IsFixed db options end.out true
  pub finishes : IsExportable db theorem name code → BecomesFinished db (export_sheet db theorem name code) answer
