-- What a call of the program answers, by cases.
use Rattle.std.specs.Prelude.{◌≡◌, ◌≢◌, ℕ, Bool, List, Option, Some, None, IsNone, option_and_then}
use Rattle.call_answers.specs.declared.ending.Ending.{Ending}
use Rattle.call_answers.specs.Asks.{Asks}
use Rattle.call_answers.specs.CommandLine.{Command, SheetCommand, TheoremCommand, unify, verify, trial, export, install, select, auto, command_of, usage_line}
use Rattle.call_answers.specs.Endings.{Refuses, Tells, Unifies}
use Rattle.call_answers.specs.Exports.{IsAccepted, Exports}
use Rattle.call_answers.specs.Fills.{Fills}
use Rattle.call_answers.specs.PutsIn.{PutsIn}
use Rattle.call_answers.specs.Trial.{IsTried}
use Rattle.call_answers.specs.Verified.{Verdict, accepted, IsVerdict}
use Rattle.fault_lines.specs.FaultLines.{database_line, refusal_line}
use Rattle.fault_lines.specs.Refusals.{at_line}
use Rattle.mm_base.specs.Outside.{Files}
use Rattle.mm_base.specs.declared.status.Status.TheVariants as status
use Rattle.mm_model.specs.Book.{Database, IsDatabaseOf}
use Rattle.mm_model.specs.Faults.{Fault}
use Rattle.mm_model.specs.Names.{Name}
use Rattle.mm_model.specs.Statements.{database_fault}
use Rattle.proof_model.specs.declared.code.Code.{Code}
use Rattle.proof_model.specs.declared.theorem.Theorem.{Theorem}
use Rattle.sheet_text.specs.TextFaults.{text_fault}
use Rattle.written_model.specs.declared.options.Options.{Options}

-- the file of the database that a command reads; a trial has none
abbrev pub database_of : Command → Option Name
database_of (unify command is_in_place) = Some command.database
database_of (verify command) = Some command.database
database_of (trial count) = None
database_of (export options command) = Some command.database
database_of (install command) = Some command.database
database_of (select command step) = Some command.database
database_of (auto command) = Some command.database

-- the file of the worksheet that it reads
abbrev pub sheet_of : Command → Option Name
sheet_of (unify command is_in_place) = Some command.sheet
sheet_of (install command) = Some command.sheet
sheet_of (select command step) = Some command.sheet
sheet_of (auto command) = Some command.sheet
sheet_of _ = None

-- these files have this text
abbrev pub HasDatabase : Files → Command → List ℕ → Type 0
HasDatabase files command text = option_and_then files (database_of command) ≡ Some text

abbrev pub HasSheet : Files → Command → List ℕ → Type 0
HasSheet files command text = option_and_then files (sheet_of command) ≡ Some text

-- no file is read: the words fit no command, or they ask for a trial
abbrev pub ReadsNothing : Option Command → Type 0
ReadsNothing command = IsNone (option_and_then database_of command)

-- a store of no files
abbrev pub no_files : Files
no_files name = None

-- the words fit no command; or the database has a fault, and it is refused; or the text of the worksheet has one; or the
-- worksheet is unified; or it is told of a proof whether it is accepted; or the program is tried by itself; or it is told of a
-- proof that is to be exported that it is not accepted; or it is exported; or the theorem of a worksheet is put into the database;
-- or a step of a worksheet is asked about; or a worksheet is unified with its steps filled. Where a file that is looked at is
-- missing, nothing is an answer
pub data CallAnswer (files : Files) : Option Command → Ending → Type 0 where
  bad_words : {end : Ending} → Refuses end status.Words usage_line → CallAnswer files None end
  bad_database : {command : Command} {end : Ending} {database : List ℕ} {f : Fault} → HasDatabase files command database → database_fault database ≡ Some f
      → Refuses end status.Database (database_line f) → CallAnswer files (Some command) end
  bad_worksheet : {command : Command} {end : Ending} {database sheet : List ℕ} {f : Fault} → HasDatabase files command database → database_fault database ≡ None
      → HasSheet files command sheet → text_fault sheet ≡ Some f → Refuses end status.Sheet (refusal_line (at_line f)) → CallAnswer files (Some command) end
  unified : {command : SheetCommand} {is_in_place : Bool} {end : Ending} {database sheet : List ℕ} {db : Database} → HasDatabase files (unify command is_in_place) database
      → database_fault database ≡ None → HasSheet files (unify command is_in_place) sheet → IsDatabaseOf command.options.kinds database db
      → Unifies db command.options sheet end → CallAnswer files (Some (unify command is_in_place)) end
  verdict : {command : TheoremCommand} {end : Ending} {database : List ℕ} (v : Verdict) → HasDatabase files (verify command) database → database_fault database ≡ None
      → IsVerdict database command.theorem v → Tells command.theorem v end → CallAnswer files (Some (verify command)) end
  tried : {count : ℕ} {end : Ending} → IsTried count end → CallAnswer files (Some (trial count)) end
  not_exported : {options : Options} {command : TheoremCommand} {end : Ending} {database : List ℕ} (v : Verdict) → HasDatabase files (export options command) database
      → database_fault database ≡ None → IsVerdict database command.theorem v → v ≢ accepted → Tells command.theorem v end
      → CallAnswer files (Some (export options command)) end
  exported : {options : Options} {command : TheoremCommand} {end : Ending} {database : List ℕ} {db : Database} {theorem : Theorem} {code : Code}
      → HasDatabase files (export options command) database → database_fault database ≡ None → IsDatabaseOf options.kinds database db
      → IsAccepted database db command.theorem theorem code → Exports db options command.theorem theorem code end → CallAnswer files (Some (export options command)) end
  installed : {command : SheetCommand} {end : Ending} {database sheet : List ℕ} {db : Database} → HasDatabase files (install command) database
      → database_fault database ≡ None → HasSheet files (install command) sheet → IsDatabaseOf command.options.kinds database db
      → PutsIn db command.options database sheet end → CallAnswer files (Some (install command)) end
  selected : {command : SheetCommand} {step : Name} {end : Ending} {database sheet : List ℕ} {db : Database} → HasDatabase files (select command step) database
      → database_fault database ≡ None → HasSheet files (select command step) sheet → IsDatabaseOf command.options.kinds database db
      → Asks db command.options sheet step end → CallAnswer files (Some (select command step)) end
  filled : {command : SheetCommand} {end : Ending} {database sheet : List ℕ} {db : Database} → HasDatabase files (auto command) database
      → database_fault database ≡ None → HasSheet files (auto command) sheet → IsDatabaseOf command.options.kinds database db
      → Fills db command.options sheet end → CallAnswer files (Some (auto command)) end

-- the answer to these words over these files
abbrev pub IsAnswer : Files → List Name → Ending → Type 0
IsAnswer files words end = CallAnswer files (command_of words) end
