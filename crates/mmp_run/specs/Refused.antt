-- What the texts of a database and of a worksheet give. This is part of the proof, and not of the claim.
use Rattle.std.specs.Prelude.{◌≡◌, ℕ, List, [], Some, None, false}
use Rattle.call_answers.specs.declared.ending.Ending.{Ending}
use Rattle.call_answers.specs.Endings.{Refuses, Unifies}
use Rattle.call_answers.specs.Given.{is_written}
use Rattle.fault_lines.specs.FaultLines.{database_line, refusal_line}
use Rattle.fault_lines.specs.Refusals.{at_line}
use Rattle.mm_base.specs.declared.status.Status.{Status}
use Rattle.mm_base.specs.declared.status.Status.TheVariants as status
use Rattle.mm_model.specs.Book.{Database, IsDatabaseOf}
use Rattle.mm_model.specs.Faults.{Fault}
use Rattle.mm_model.specs.Statements.{database_fault}
use Rattle.sheet_text.specs.TextFaults.{text_fault}
use Rattle.written_model.specs.declared.options.Options.{Options}

-- the database has a fault, and the line tells the first
pub record IsDatabaseRefusal (database : List ℕ) (end : Ending) : Type 0 where
  pub fault : Fault
  pub stands : database_fault database ≡ Some fault
  pub refuses : Refuses end status.Database (database_line fault)

-- the database has no fault
pub record IsAccepted (database : List ℕ) : Type 0 where
  pub no_fault : database_fault database ≡ None

-- the text of the worksheet has a fault, and the line tells the first
pub record IsSheetRefusal (sheet : List ℕ) (end : Ending) : Type 0 where
  pub fault : Fault
  pub stands : text_fault sheet ≡ Some fault
  pub refuses : Refuses end status.Sheet (refusal_line (at_line fault))

-- the text of the worksheet has no fault
pub record IsReadable (sheet : List ℕ) : Type 0 where
  pub no_fault : text_fault sheet ≡ None

-- the answer to a worksheet over the text of a database without a fault
pub record IsUnified (options : Options) (database sheet : List ℕ) (end : Ending) : Type 0 where
  pub db : Database
  pub is_database : IsDatabaseOf options.kinds database db
  pub unifies : Unifies db options sheet end

-- the statuses of the answers to a database, to a worksheet and to a proof
abbrev pub IsTextStatus : Status → Type 0
IsTextStatus status.Words = ⊥
IsTextStatus status.Read = ⊥
IsTextStatus status.Write = ⊥
IsTextStatus status.Memory = ⊥
IsTextStatus s = Unit {0}

-- it has such a status, and a text for the output only where there is something to write
pub record IsTextEnding (end : Ending) : Type 0 where
  pub status : IsTextStatus end.status
  pub silent : is_written end.status ≡ false → end.out ≡ []
