-- What a call leaves behind of its answer: in the files, the output and the log.
use Rattle.std.specs.Prelude.{◌≡◌, ◌≢◌, ◌⊎◌, ◌++◌, ℕ, Bool, true, false, List, [], Option, Some, None, IfSome, IsSomeAnd, MatchOption, option_and_then, codes, if◌then◌else◌}
use Rattle.std.specs.Io.KnownBytes.{Appends}
use Rattle.call_answers.specs.declared.ending.Ending.{Ending}
use Rattle.call_answers.specs.CallAnswers.{IsAnswer, HasDatabase, database_of, no_files}
use Rattle.call_answers.specs.CommandLine.{Command, unify, verify, trial, export, install, select, auto, command_of}
use Rattle.mm_base.specs.Outside.{Files, Replaces, Rose, AppendsPart}
use Rattle.mm_base.specs.declared.status.Status.{Status}
use Rattle.mm_base.specs.declared.status.Status.TheVariants as status
use Rattle.mm_model.specs.Names.{Name}
use Rattle.mm_model.specs.Statements.{database_fault}
use Rattle.sheet_text.specs.Layout.{ended}

-- what is told of the files, and of the bytes of the output and of the log
pub record Told : Type 0 where
  pub files : Option Files
  pub out : Option (List ℕ)
  pub log : Option (List ℕ)

abbrev pub told : Option Files → Option (List ℕ) → Option (List ℕ) → Told
told files out log = record { files = files; out = out; log = log }

-- ---- where the text of an answer goes

abbrev pub is_written : Status → Bool
is_written status.Finished = true
is_written status.Unfinished = true
is_written _ = false

-- the file of a worksheet that is written in its own place
abbrev pub in_place_of : Option Command → Option Name
in_place_of (Some (unify command true)) = Some command.sheet
in_place_of _ = None

-- the file whose bytes the text of an answer becomes; where there is none, the text goes to the output
abbrev pub target : Option Command → Status → Option Name
target command s = if is_written s then in_place_of command else None

-- the text is in the output, or in the file
abbrev pub IsPut : Option Name → List ℕ → Told → Told → Type 0
IsPut None text before after = (after.files ≡ before.files) × Appends before.out after.out text
IsPut (Some name) text before after = Replaces before.files after.files name text × (after.out ≡ before.out)

-- of a text that is not empty a part was taken
abbrev pub TakesPart : Option (List ℕ) → Option (List ℕ) → List ℕ → Type 0
TakesPart before after text = (text ≢ []) × AppendsPart before after text

-- a part of the text is in the output, or nothing is in the file
abbrev pub IsPutInPart : Option Name → List ℕ → Told → Told → Type 0
IsPutInPart None text before after = (after.files ≡ before.files) × TakesPart before.out after.out text
IsPutInPart (Some name) text before after = (after.files ≡ before.files) × (after.out ≡ before.out)

-- the answer is given whole
pub record GivesWhole (place : Option Name) (end : Ending) (s : Status) (before after : Told) : Type 0 where
  pub status : end.status ≡ s
  pub text : IsPut place end.out before after
  pub log : Appends before.log after.log end.log

-- it is cut short: a part of its text and nothing in the log, or its text and a part of the log
abbrev pub GivesPart : Option Name → Ending → Told → Told → Type 0
GivesPart place end before after =
    (IsPutInPart place end.out before after × (after.log ≡ before.log)) ⊎ (IsPut place end.out before after × TakesPart before.log after.log end.log)

-- ---- the answer to the words

-- a status that speaks of the words and the files, and of no failure
abbrev pub IsSettled : Status → Type 0
IsSettled status.Read = ⊥
IsSettled status.Write = ⊥
IsSettled status.Memory = ⊥
IsSettled _ = Unit {0}

-- the call ends with the status of the answer to the words over the files, which is given whole
pub record IsGiven (words : List Name) (files : Files) (s : Status) (before after : Told) : Type 0 where
  pub end : Ending
  pub answer : IsAnswer files words end
  pub gives : GivesWhole (target (command_of words) end.status) end s before after

-- ---- a file that could not be read

-- the files that a command reads
abbrev pub ReadsFile : Command → Name → Type 0
ReadsFile (unify command is_in_place) name = (name ≡ command.database) ⊎ (name ≡ command.sheet)
ReadsFile (verify command) name = name ≡ command.database
ReadsFile (trial count) name = ⊥
ReadsFile (export options command) name = name ≡ command.database
ReadsFile (install command) name = (name ≡ command.database) ⊎ (name ≡ command.sheet)
ReadsFile (select command step) name = (name ≡ command.database) ⊎ (name ≡ command.sheet)
ReadsFile (auto command) name = (name ≡ command.database) ⊎ (name ≡ command.sheet)

-- the file of the database is there, and its text has no fault
pub record HasSoundDatabase (command : Command) (files : Files) : Type 0 where
  pub text : List ℕ
  pub has : HasDatabase files command text
  pub no_fault : database_fault text ≡ None

-- `read fault FILE`
abbrev pub read_fault : Name → Ending
read_fault name = record { out = []; log = ended (codes "read fault " ++ name); status = status.Read }

-- the answer names a file that the command reads and that failed to be read: the database, or the worksheet where the database
-- has no fault
pub record IsReadFault (command : Command) (files : Option Files) (before after : Name → ℕ) (end : Ending) : Type 0 where
  pub name : Name
  pub named : ReadsFile command name
  pub in_turn : (database_of command ≡ Some name) ⊎ IfSome files (HasSoundDatabase command)
  pub rose : Rose (before name) (after name)
  pub says : end ≡ read_fault name

-- the call ends with it, and it is given whole
pub record SaysReadFault (command : Command) (read_before read_after : Name → ℕ) (before after : Told) : Type 0 where
  pub end : Ending
  pub fault : IsReadFault command before.files read_before read_after end
  pub gives : GivesWhole None end status.Read before after

-- no file that the command reads failed to be read
abbrev pub NoReadFault : Command → (Name → ℕ) → (Name → ℕ) → Type 0
NoReadFault command before after = (name : Name) → ReadsFile command name → ¬ Rose (before name) (after name)

-- ---- a write that failed

-- the answer to the words where no file is read; else one over the files, where they are told, or one that names a file which
-- failed to be read
abbrev pub MayAnswer : List Name → Option Files → (Name → ℕ) → (Name → ℕ) → Ending → Type 0
MayAnswer words files before after end =
    MatchOption (option_and_then database_of (command_of words)) (IsAnswer no_files words end)
    (λ database. IfSome files (λ f. IsAnswer f words end) ⊎ IsSomeAnd (command_of words) (λ command. IsReadFault command files before after end))

-- an answer that the call may have given is cut short
pub record IsCutShort (words : List Name) (read_before read_after : Name → ℕ) (before after : Told) : Type 0 where
  pub end : Ending
  pub may : MayAnswer words before.files read_before read_after end
  pub part : GivesPart (target (command_of words) end.status) end before after
