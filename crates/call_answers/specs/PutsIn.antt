-- What `install` answers to a worksheet without a fault of its text: the database with the theorem of the worksheet in it.
use Rattle.std.specs.Prelude.{◌≡◌, ℕ, List, [], flat_map}
use Rattle.call_answers.specs.declared.ending.Ending.{Ending}
use Rattle.call_answers.specs.Endings.{Refuses}
use Rattle.call_answers.specs.Kept.{KeepsAll}
use Rattle.fault_lines.specs.FaultLines.{refusal_line}
use Rattle.install_model.specs.InstallAnswers.{InstallAnswer, Installs, bad_sheet, theorem_there, unfinished, too_large, put_in, theorem_there_line, database_too_large_line}
use Rattle.mm_base.specs.declared.status.Status.TheVariants as status
use Rattle.mm_model.specs.Book.{Database}
use Rattle.sheet_text.specs.Layout.{ended}
use Rattle.written_model.specs.declared.options.Options.{Options}
use Rattle.written_model.specs.Written.{Writing, written_log}

-- the text with the theorem, and the report
pub record ShowsText (db : Database) (options : Options) (w : Writing) (new : List ℕ) (end : Ending) : Type 0 where
  pub out : end.out ≡ new
  pub log : end.log ≡ flat_map ended (written_log db options w)
  pub status : end.status ≡ status.Finished

-- the report alone
pub record ShowsReport (db : Database) (options : Options) (w : Writing) (end : Ending) : Type 0 where
  pub out : end.out ≡ []
  pub log : end.log ≡ flat_map ended (written_log db options w)
  pub status : end.status ≡ status.Unfinished

-- how it is told what the theorem's worksheet gives
abbrev pub GivesInstall : Database → Options → InstallAnswer → Ending → Type 0
GivesInstall db options (bad_sheet r) end = Refuses end status.Sheet (refusal_line r)
GivesInstall db options theorem_there end = Refuses end status.Sheet theorem_there_line
GivesInstall db options (unfinished w) end = ShowsReport db options w end
GivesInstall db options (too_large n) end = Refuses end status.Sheet (database_too_large_line n)
GivesInstall db options (put_in w new) end = ShowsText db options w new end

-- a text with the theorem keeps what the text of the database had, and proves the theorem
abbrev pub KeepsIfPutIn : Database → Options → List ℕ → InstallAnswer → Type 0
KeepsIfPutIn db options text (put_in w new) = KeepsAll db options text w
KeepsIfPutIn db options text answer = Unit {0}

-- the theorem of a worksheet is put into the text of the database
pub record PutsIn (db : Database) (options : Options) (text sheet : List ℕ) (end : Ending) : Type 0 where
  pub answer : InstallAnswer
  pub installs : Installs db options text sheet answer
  pub gives : GivesInstall db options answer end
  pub keeps : KeepsIfPutIn db options text answer
