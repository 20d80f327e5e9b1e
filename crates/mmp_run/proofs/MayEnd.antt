-- How a call may end, from what was found under the names of its files and what the texts gave.
use Rattle.std.proofs.Common.{◌≡◌, ◌≢◌, ◌⊎◌, ◌≤◌, ℕ, Bool, true, false, List, Option, Some, None, Result, Ok, Err, IfSome, IsSomeAnd, IsNone, IfOk}
use Rattle.std.proofs.Common.{refl, sym, ◌∙◌, ap, subst, inl, inr, arith}
use Rattle.std.specs.Option.{option_and_then}
use Rattle.call_answers.specs.declared.ending.Ending.{Ending}
use Rattle.call_answers.specs.CallAnswers.{CallAnswer, bad_database, bad_worksheet, unified, verdict, tried, not_exported, exported, installed, selected, filled, HasDatabase, HasSheet, database_of, sheet_of, no_files}
use Rattle.call_answers.specs.CommandLine.{Command, SheetCommand, TheoremCommand, unify, verify, trial, export, install, select, auto}
use Rattle.call_answers.specs.Endings.{Tells}
use Rattle.call_answers.specs.Given.{ReadsFile, HasSoundDatabase, read_fault}
use Rattle.call_answers.specs.Trial.{IsTried}
use Rattle.call_answers.specs.Verified as said
use Rattle.fault_lines.specs.FaultLines.{no_theorem_line, code_line, proof_line}
use Rattle.mm_base.specs.Outside.{Files, Rose, NoneFell}
use Rattle.mm_base.specs.declared.errors.Memory as memory
use Rattle.mm_base.specs.declared.status.Status.{Status}
use Rattle.mm_base.specs.declared.status.Status.TheVariants.{Words, Read, Write, Memory, Proof}
use Rattle.mm_model.specs.Names.{Name}
use Rattle.mmp_run.specs.Answers.{MayEnd}
use Rattle.mmp_run.specs.Asked.{IsAsked}
use Rattle.mmp_run.specs.Exported as made
use Rattle.mmp_run.specs.Exported.{IsExported}
use Rattle.mmp_run.specs.Filled.{IsFilled}
use Rattle.mmp_run.specs.Installed.{IsInstalled}
use Rattle.mmp_run.specs.Opened.{Has, IsRefused, IsUnread, IsOpen}
use Rattle.mmp_run.specs.OpenedBoth.{IsRefusedFile}
use Rattle.mmp_run.specs.OpenedBoth as both
use Rattle.mmp_run.specs.OpenedSheet.{IsSheetRefused, IsOpenSheet}
use Rattle.mmp_run.specs.Refused.{IsDatabaseRefusal, IsSheetRefusal, IsUnified, IsTextStatus, IsTextEnding}
use Rattle.mmp_run.specs.Verify.{IsVerified, ending_of}
use Rattle.mmp_run.proofs.Refusals.{refuses}
use Rattle.sheet_text.specs.declared.sheet.Sheet as sheets
use Rattle.sheet_unify.specs.Answered.{SaysSheet}
use Rattle.written_model.specs.declared.options.Options.{Options}

-- ---- statuses

text_not_read : (s : Status) → IsTextStatus s → s ≢ Read
text_not_read s is e = subst IsTextStatus e is

text_not_words : (s : Status) → IsTextStatus s → s ≢ Words
text_not_words s is e = subst IsTextStatus e is

text_not_write : (s : Status) → IsTextStatus s → s ≢ Write
text_not_write s is e = subst IsTextStatus e is

text_not_memory : (s : Status) → IsTextStatus s → s ≢ Memory
text_not_memory s is e = subst IsTextStatus e is

-- ---- by an answer, or by a file that failed to be read

some_not_none : {X : Type 0} (x : X) → IsNone (Some x) → ⊥
some_not_none x e = cc

-- a command whose database has a name reads a file
reads_some : (command : Command) (name : Name) → database_of command ≡ Some name → IsNone (database_of command) → ⊥
reads_some command name named none = some_not_none name (subst (λ (d : Option Name). IsNone d) named none)

reads_none : (command : Command) (name : Name) → ReadsFile command name → IsNone (database_of command) → ⊥
reads_none (unify command is_in_place) name read none = some_not_none command.database none
reads_none (verify command) name read none = some_not_none command.database none
reads_none (trial count) name read none = read
reads_none (export options command) name read none = some_not_none command.database none
reads_none (install command) name read none = some_not_none command.database none
reads_none (select command step) name read none = some_not_none command.database none
reads_none (auto command) name read none = some_not_none command.database none

module _ (command : Command) (told : Option Files) (before now : Name → ℕ) where
  may_from_due : (end : Ending) → IsTextEnding end → IfSome told (λ files. CallAnswer files (Some command) end)
      → (IsNone (database_of command) → CallAnswer no_files (Some command) end) → MayEnd command told before now end
  may_from_due end is due without_files = record {
    due = λ _. due;
    without_files = without_files;
    read = λ e. absurd (text_not_read end.status is.status e);
    not_words = text_not_words end.status is.status;
    not_write = text_not_write end.status is.status;
    not_memory = text_not_memory end.status is.status;
    silent = is.silent;
  }

  may_not_read : (name : Name) (end : Ending) → ReadsFile command name → (database_of command ≡ Some name) ⊎ IfSome told (HasSoundDatabase command)
      → Rose (before name) (now name) → end ≡ read_fault name
      → MayEnd command told before now end
  may_not_read name end named in_turn rose says =
      let is_read : end.status ≡ Read = ap (λ (x : Ending). x.status) says in
      record {
        due = λ not_read. absurd (not_read is_read);
        without_files = λ none. absurd (reads_none command name named none);
        read = λ _. record { name = name; named = named; in_turn = in_turn; rose = rose; says = says };
        not_words = λ e. cc;
        not_write = λ e. cc;
        not_memory = λ e. cc;
        silent = λ _. ap (λ (x : Ending). x.out) says;
      }

-- a count that rose after one that did not fall
pub rose_since : (before mid now : ℕ) → before ≤ mid → Rose mid now → Rose before now
rose_since before mid now fell rose = omega arith

-- ---- databases

has_database : (command : Command) (files : Files) (name text : Name) → database_of command ≡ Some name → files name ≡ Some text → HasDatabase files command text
has_database command files name text named e = ap (option_and_then files) named ∙ e

due_refused_at : (command : Command) (files : Files) (name : Name) (end : Ending) (file : Option (List ℕ)) → files name ≡ file → database_of command ≡ Some name
    → IsSomeAnd file (λ text. IsDatabaseRefusal text end) → CallAnswer files (Some command) end
due_refused_at command files name end None e named h = absurd h
due_refused_at command files name end (Some text) e named h = bad_database {database = text} {f = h.fault} (has_database command files name text named e) h.stands h.refuses

due_refused : (command : Command) (told : Option Files) (name : Name) (end : Ending) → database_of command ≡ Some name
    → IfSome told (λ files. IsSomeAnd (files name) (λ text. IsDatabaseRefusal text end))
    → IfSome told (λ files. CallAnswer files (Some command) end)
due_refused command None name end named h = tt
due_refused command (Some files) name end named h = due_refused_at command files name end (files name) refl named h

-- the file of the database is refused
pub may_refuse : (command : Command) (told : Option Files) (before now : Name → ℕ) (name : Name) (end : Ending) → database_of command ≡ Some name → ReadsFile command name
    → IsRefused told name end ⊎ IsUnread before now name end → MayEnd command told before now end
may_refuse command told before now name end named read (inl is) =
    may_from_due command told before now end (record { status = subst IsTextStatus (sym is.status) tt; silent = λ _. is.out }) (due_refused command told name end named is.due)
    (λ none. absurd (reads_some command name named none))
may_refuse command told before now name end named read (inr is) = may_not_read command told before now name end read (inl named) is.rose is.says

-- ---- worksheets

has_sheet : (command : Command) (files : Files) (name text : Name) → sheet_of command ≡ Some name → files name ≡ Some text → HasSheet files command text
has_sheet command files name text named e = ap (option_and_then files) named ∙ e

-- the file of the worksheet is refused, behind a database without a fault
pub refused_behind : (told : Option Files) (before mid now : Name → ℕ) (database file : Name) (text : List ℕ) (end : Ending) → IsOpen told database text → NoneFell before mid
    → IsSheetRefused told file end ⊎ IsUnread mid now file end → IsRefusedFile told before now database file end
refused_behind told before mid now database file text end opened fell (inl is) = both.bad_sheet {text = text} opened (inl is)
refused_behind told before mid now database file text end opened fell (inr is) =
    both.bad_sheet {text = text} opened (inr (record { rose = rose_since (before file) (mid file) (now file) (fell file) is.rose; says = is.says }))

-- a command that reads these two files
pub record ReadsBoth (command : Command) (database sheet : Name) : Type 0 where
  pub database_is : database_of command ≡ Some database
  pub sheet_is : sheet_of command ≡ Some sheet
  pub reads_database : ReadsFile command database
  pub reads_sheet : ReadsFile command sheet

pub unify_reads : (command : SheetCommand) (is_in_place : Bool) → ReadsBoth (unify command is_in_place) command.database command.sheet
unify_reads command is_in_place = record { database_is = refl; sheet_is = refl; reads_database = inl refl; reads_sheet = inr refl }

pub install_reads : (command : SheetCommand) → ReadsBoth (install command) command.database command.sheet
install_reads command = record { database_is = refl; sheet_is = refl; reads_database = inl refl; reads_sheet = inr refl }

pub select_reads : (command : SheetCommand) (step : Name) → ReadsBoth (select command step) command.database command.sheet
select_reads command step = record { database_is = refl; sheet_is = refl; reads_database = inl refl; reads_sheet = inr refl }

pub auto_reads : (command : SheetCommand) → ReadsBoth (auto command) command.database command.sheet
auto_reads command = record { database_is = refl; sheet_is = refl; reads_database = inl refl; reads_sheet = inr refl }

module _ (command : Command) (name file : Name) (reads : ReadsBoth command name file) where
  due_bad_sheet : (files : Files) (end : Ending) (database : List ℕ) (found : Option (List ℕ)) → files file ≡ found → IsOpen (Some files) name database
      → IsSomeAnd found (λ text. IsSheetRefusal text end) → CallAnswer files (Some command) end
  due_bad_sheet files end database None e opened h = absurd h
  due_bad_sheet files end database (Some text) e opened h =
      bad_worksheet {database = database} {sheet = text} {f = h.fault} (has_database command files name database reads.database_is opened.has) opened.accepted.no_fault
      (has_sheet command files file text reads.sheet_is e) h.stands h.refuses

  due_sheet_refused : (told : Option Files) (end : Ending) (database : List ℕ) → IsOpen told name database → IfSome told (λ files. IsSomeAnd (files file) (λ text. IsSheetRefusal text end))
      → IfSome told (λ files. CallAnswer files (Some command) end)
  due_sheet_refused None end database opened h = tt
  due_sheet_refused (Some files) end database opened h = due_bad_sheet files end database (files file) refl opened h

  -- the database has no fault
  sound : (told : Option Files) (database : List ℕ) → IsOpen told name database → IfSome told (HasSoundDatabase command)
  sound None database opened = tt
  sound (Some files) database opened = record { text = database; has = has_database command files name database reads.database_is opened.has; no_fault = opened.accepted.no_fault }

  -- one of the files is refused
  pub may_refuse_file : (told : Option Files) (before now : Name → ℕ) (end : Ending) → IsRefusedFile told before now name file end → MayEnd command told before now end
  may_refuse_file told before now end (both.bad_database h) = may_refuse command told before now name end reads.database_is reads.reads_database h
  may_refuse_file told before now end (both.bad_sheet {text = database} opened (inl is)) =
      may_from_due command told before now end (record { status = subst IsTextStatus (sym is.status) tt; silent = λ _. is.out }) (due_sheet_refused told end database opened is.due)
      (λ none. absurd (reads_some command name reads.database_is none))
  may_refuse_file told before now end (both.bad_sheet {text = database} opened (inr is)) =
      may_not_read command told before now file end reads.reads_sheet (inr (sound told database opened)) is.rose is.says

module _ (command : SheetCommand) (database : List ℕ) where
  due_unified : (is_in_place : Bool) (told : Option Files) (text : List ℕ) (end : Ending) → IsOpen told command.database database → Has told command.sheet text
      → IsUnified command.options database text end → IfSome told (λ files. CallAnswer files (Some (unify command is_in_place)) end)
  due_unified is_in_place None text end opened has is = tt
  due_unified is_in_place (Some files) text end opened has is = unified {database = database} {sheet = text} {db = is.db} opened.has opened.accepted.no_fault has is.is_database is.unifies

  due_installed : (told : Option Files) (text : List ℕ) (end : Ending) → IsOpen told command.database database → Has told command.sheet text
      → IsInstalled command.options database text end → IfSome told (λ files. CallAnswer files (Some (install command)) end)
  due_installed None text end opened has is = tt
  due_installed (Some files) text end opened has is = installed {database = database} {sheet = text} {db = is.db} opened.has opened.accepted.no_fault has is.is_database is.puts_in

  due_selected : (step : Name) (told : Option Files) (text : List ℕ) (end : Ending) → IsOpen told command.database database → Has told command.sheet text
      → IsAsked command.options database text step end → IfSome told (λ files. CallAnswer files (Some (select command step)) end)
  due_selected step None text end opened has is = tt
  due_selected step (Some files) text end opened has is = selected {database = database} {sheet = text} {db = is.db} opened.has opened.accepted.no_fault has is.is_database is.asks

  due_filled : (told : Option Files) (text : List ℕ) (end : Ending) → IsOpen told command.database database → Has told command.sheet text
      → IsFilled command.options database text end → IfSome told (λ files. CallAnswer files (Some (auto command)) end)
  due_filled None text end opened has is = tt
  due_filled (Some files) text end opened has is = filled {database = database} {sheet = text} {db = is.db} opened.has opened.accepted.no_fault has is.is_database is.fills

  -- the worksheet is unified
  pub may_unify : (is_in_place : Bool) (told : Option Files) (before now : Name → ℕ) (sheet : sheets.Sheet) (end : Result Ending memory.Memory)
      → IsOpen told command.database database → IsOpenSheet told command.sheet sheet
      → ((text : List ℕ) → SaysSheet text sheet → IfOk end (IsUnified command.options database text)) → IfOk end IsTextEnding
      → IfOk end (MayEnd (unify command is_in_place) told before now)
  may_unify is_in_place told before now sheet (Err e) opened read is st = tt
  may_unify is_in_place told before now sheet (Ok end) opened read is st =
      may_from_due (unify command is_in_place) told before now end st
      (due_unified is_in_place told read.text end opened read.has (is read.text (record { sound = read.readable.no_fault; reads = read.reads })))
      (λ none. absurd (some_not_none command.database none))

  -- its theorem is put into the database
  pub may_install : (told : Option Files) (before now : Name → ℕ) (sheet : sheets.Sheet) (end : Result Ending memory.Memory)
      → IsOpen told command.database database → IsOpenSheet told command.sheet sheet
      → ((text : List ℕ) → SaysSheet text sheet → IfOk end (IsInstalled command.options database text)) → IfOk end IsTextEnding
      → IfOk end (MayEnd (install command) told before now)
  may_install told before now sheet (Err e) opened read is st = tt
  may_install told before now sheet (Ok end) opened read is st =
      may_from_due (install command) told before now end st
      (due_installed told read.text end opened read.has (is read.text (record { sound = read.readable.no_fault; reads = read.reads })))
      (λ none. absurd (some_not_none command.database none))

  -- a step of it is asked about
  pub may_select : (step : Name) (told : Option Files) (before now : Name → ℕ) (sheet : sheets.Sheet) (end : Result Ending memory.Memory)
      → IsOpen told command.database database → IsOpenSheet told command.sheet sheet
      → ((text : List ℕ) → SaysSheet text sheet → IfOk end (IsAsked command.options database text step)) → IfOk end IsTextEnding
      → IfOk end (MayEnd (select command step) told before now)
  may_select step told before now sheet (Err e) opened read is st = tt
  may_select step told before now sheet (Ok end) opened read is st =
      may_from_due (select command step) told before now end st
      (due_selected step told read.text end opened read.has (is read.text (record { sound = read.readable.no_fault; reads = read.reads })))
      (λ none. absurd (some_not_none command.database none))

  -- it is unified with its steps filled
  pub may_fill : (told : Option Files) (before now : Name → ℕ) (sheet : sheets.Sheet) (end : Result Ending memory.Memory)
      → IsOpen told command.database database → IsOpenSheet told command.sheet sheet
      → ((text : List ℕ) → SaysSheet text sheet → IfOk end (IsFilled command.options database text)) → IfOk end IsTextEnding
      → IfOk end (MayEnd (auto command) told before now)
  may_fill told before now sheet (Err e) opened read is st = tt
  may_fill told before now sheet (Ok end) opened read is st =
      may_from_due (auto command) told before now end st
      (due_filled told read.text end opened read.has (is read.text (record { sound = read.readable.no_fault; reads = read.reads })))
      (λ none. absurd (some_not_none command.database none))

-- ---- theorems

written_otherwise : true ≡ false → ⊥
written_otherwise e = cc

verdict_ending : (theorem : Name) (v : said.Verdict) → IsTextEnding (ending_of theorem v)
verdict_ending theorem said.no_theorem = record { status = tt; silent = λ _. refl }
verdict_ending theorem said.accepted = record { status = tt; silent = λ e. absurd (written_otherwise e) }
verdict_ending theorem (said.bad_code f) = record { status = tt; silent = λ _. refl }
verdict_ending theorem (said.refused f) = record { status = tt; silent = λ _. refl }

tells : (theorem : Name) (v : said.Verdict) (end : Ending) → end ≡ ending_of theorem v → Tells theorem v end
tells theorem said.no_theorem end e = refuses end Proof (no_theorem_line theorem) e
tells theorem said.accepted end e = e
tells theorem (said.bad_code f) end e = refuses end Proof (code_line f) e
tells theorem (said.refused f) end e = refuses end Proof (proof_line f) e

due_theorem : (command : TheoremCommand) (told : Option Files) (database : List ℕ) (end : Ending) → IsOpen told command.database database → IsVerified command.theorem database end
    → IfSome told (λ files. CallAnswer files (Some (verify command)) end)
due_theorem command None database end opened is = tt
due_theorem command (Some files) database end opened is = verdict {database = database} is.verdict opened.has opened.accepted.no_fault is.is_verdict (tells command.theorem is.verdict end is.says)

-- the proof of a theorem is judged
pub may_verify : (command : TheoremCommand) (told : Option Files) (before now : Name → ℕ) (database : List ℕ) (end : Result Ending memory.Memory)
    → IsOpen told command.database database → IfOk end (IsVerified command.theorem database) → IfOk end (MayEnd (verify command) told before now)
may_verify command told before now database (Err e) opened is = tt
may_verify command told before now database (Ok end) opened is =
    may_from_due (verify command) told before now end (subst IsTextEnding (sym is.says) (verdict_ending command.theorem is.verdict))
    (due_theorem command told database end opened is)
    (λ none. absurd (some_not_none command.database none))

due_proof : (options : Options) (command : TheoremCommand) (files : Files) (database : List ℕ) (end : Ending) → IsOpen (Some files) command.database database
    → IsExported options database command.theorem end → CallAnswer files (Some (export options command)) end
due_proof options command files database end opened (made.refused v is other says) =
    not_exported {database = database} v opened.has opened.accepted.no_fault is other (tells command.theorem v end says)
due_proof options command files database end opened (made.exported {db = db} {t = t} {code = code} is accepts exports) =
    exported {database = database} {db = db} {theorem = t} {code = code} opened.has opened.accepted.no_fault is accepts exports

due_exported : (options : Options) (command : TheoremCommand) (told : Option Files) (database : List ℕ) (end : Ending) → IsOpen told command.database database
    → IsExported options database command.theorem end → IfSome told (λ files. CallAnswer files (Some (export options command)) end)
due_exported options command None database end opened is = tt
due_exported options command (Some files) database end opened is = due_proof options command files database end opened is

-- the proof of a theorem is exported
pub may_export : (options : Options) (command : TheoremCommand) (told : Option Files) (before now : Name → ℕ) (database : List ℕ) (end : Result Ending memory.Memory)
    → IsOpen told command.database database → IfOk end (IsExported options database command.theorem) → IfOk end IsTextEnding
    → IfOk end (MayEnd (export options command) told before now)
may_export options command told before now database (Err e) opened is st = tt
may_export options command told before now database (Ok end) opened is st =
    may_from_due (export options command) told before now end st (due_exported options command told database end opened is)
    (λ none. absurd (some_not_none command.database none))

-- ---- trials

due_trial : (count : ℕ) (told : Option Files) (end : Ending) → IsTried count end → IfSome told (λ files. CallAnswer files (Some (trial count)) end)
due_trial count None end is = tt
due_trial count (Some files) end is = tried is

pub may_try : (count : ℕ) (told : Option Files) (before now : Name → ℕ) (end : Result Ending memory.Memory) → IfOk end (IsTried count) → IfOk end IsTextEnding
    → IfOk end (MayEnd (trial count) told before now)
may_try count told before now (Err e) is st = tt
may_try count told before now (Ok end) is st = may_from_due (trial count) told before now end st (due_trial count told end is) (λ _. tried is)
