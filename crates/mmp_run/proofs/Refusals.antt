-- Refusals of the files that a command names, from what was found under their names.
use Rattle.std.proofs.Common.{◌≡◌, ◌≤◌, ◌<◌, ◌^◌, ℕ, List, length, nat_lt, Option, Some, None, option_map, Result, Ok, Err, IfSome}
use Rattle.std.proofs.Common.{IsSomeAnd, IfOk, true, false, refl, sym, ◌∙◌, ap, arith}
use Rattle.std.proofs.lemmas.Bool.Decides.{nat_tests}
use Rattle.std.proofs.lemmas.Option.{none-some, same_Some}
use Rattle.call_answers.specs.declared.ending.Ending.{Ending}
use Rattle.call_answers.specs.Endings.{Refuses}
use Rattle.fault_lines.specs.FaultLines.{database_line, refusal_line}
use Rattle.fault_lines.specs.Refusals.{at_line}
use Rattle.mm_base.specs.Outside.{Files}
use Rattle.mm_base.specs.declared.errors.Memory as memory
use Rattle.mm_base.specs.declared.status.Status.{Status}
use Rattle.mm_base.specs.declared.status.Status.TheVariants.{Database, Sheet}
use Rattle.mm_frames.specs.Contents.{Contents, contents_of}
use Rattle.mm_model.specs.Faults.{Fault, fault}
use Rattle.mm_model.specs.Statements.{database_fault}
use Rattle.mmp_run.specs.Opened.{Has, IsRefused, IsListedText}
use Rattle.mmp_run.specs.OpenedSheet.{IsSheetRefused, IsOpenSheet, IsOpenedSheet, SaysWhatIsSaid}
use Rattle.mmp_run.specs.declared.sheet.OpenedSheet.{OpenedSheet}
use Rattle.mmp_run.specs.declared.sheet.OpenedSheet.TheVariants as opened
use Rattle.mmp_run.specs.Refusals.{refusal}
use Rattle.mmp_run.specs.Refused.{IsDatabaseRefusal, IsSheetRefusal}
use Rattle.sheet_text.specs.declared.sheet.Sheet as sheets
use Rattle.sheet_text.specs.Reads as reading
use Rattle.sheet_text.specs.TextFaults.{text_fault, line_fault}

longer : (n most : ℕ) → most < n → nat_lt most n ≡ true
longer n most h = grind (arith, nat_tests)

not_longer : (n most : ℕ) → n ≤ most → nat_lt most n ≡ false
not_longer n most h = grind (arith, nat_tests)

pub refuses : (end : Ending) (s : Status) (line : List ℕ) → end ≡ refusal s line → Refuses end s line
refuses end s line e = record { out = ap (λ (x : Ending). x.out) e; log = ap (λ (x : Ending). x.log) e; status = ap (λ (x : Ending). x.status) e }

-- ---- databases

-- the line that tells the first fault of a database
refused_with : (database : List ℕ) (end : Ending) (first : Option Fault) (text : List ℕ) → database_fault database ≡ first
    → option_map database_line first ≡ Some text → end ≡ refusal Database text → IsDatabaseRefusal database end
refused_with database end None text is line says = absurd (none-some text line)
refused_with database end (Some f) text is line says =
    record { fault = f; stands = is; refuses = refuses end Database (database_line f) (says ∙ ap (refusal Database) (sym (same_Some (database_line f) text line))) }

refused_by : (database : List ℕ) (end : Ending) (f : Fault) → database_fault database ≡ Some f → end ≡ refusal Database (database_line f) → IsDatabaseRefusal database end
refused_by database end f is says = record { fault = f; stands = is; refuses = refuses end Database (database_line f) says }

pub refused_told : (database : List ℕ) (end : Result Ending memory.Memory) (first : Option Fault) (text : List ℕ) → database_fault database ≡ first → option_map database_line first ≡ Some text
    → IfOk end (λ e. e ≡ refusal Database text) → IfOk end (IsDatabaseRefusal database)
refused_told database (Err e) first text is line says = tt
refused_told database (Ok end) first text is line says = refused_with database end first text is line says

too_long : (database : List ℕ) → 2 ^ 28 < length database → database_fault database ≡ Some (fault (2 ^ 28) 30)
too_long database long = rw (longer (length database) (2 ^ 28) long) refl

long_file : (end : Ending) (file : Option (List ℕ)) → end ≡ refusal Database (database_line (fault (2 ^ 28) 30))
    → IsSomeAnd file (λ text. 2 ^ 28 < length text) → IsSomeAnd file (λ text. IsDatabaseRefusal text end)
long_file end None says long = absurd long
long_file end (Some text) says long = refused_by text end (fault (2 ^ 28) 30) (too_long text long) says

-- a file of too many bytes
pub refused_long : (told : Option Files) (name : List ℕ) (end : Ending) → end ≡ refusal Database (database_line (fault (2 ^ 28) 30))
    → IfSome told (λ files. IsSomeAnd (files name) (λ text. 2 ^ 28 < length text)) → IsRefused told name end
refused_long None name end says long = record { status = ap (λ (x : Ending). x.status) says; out = ap (λ (x : Ending). x.out) says; due = tt }
refused_long (Some files) name end says long = record { status = ap (λ (x : Ending). x.status) says; out = ap (λ (x : Ending). x.out) says; due = long_file end (files name) says long }

pub text_refused : (told : Option Files) (name text : List ℕ) (end : Ending) → Has told name text → IsDatabaseRefusal text end → IsRefused told name end
text_refused None name text end has is = record { status = is.refuses.status; out = is.refuses.out; due = tt }
text_refused (Some files) name text end has is = record { status = is.refuses.status; out = is.refuses.out; due = rw has is }

-- the statements of the text of a file, as it was read
pub listed_text : (told : Option Files) (name text read : List ℕ) (contents : Contents) → read ≡ text → Has told name text
    → contents ≡ contents_of read → database_fault read ≡ None → IsListedText told name text contents
listed_text told name text read contents e has is no_fault =
    record { is_open = record { has = has; accepted = record { no_fault = ap database_fault (sym e) ∙ no_fault } }; contents_are = is ∙ ap contents_of e }

-- ---- worksheets

sheet_refused_by : (sheet : List ℕ) (end : Ending) (f : Fault) → text_fault sheet ≡ Some f → end ≡ refusal Sheet (refusal_line (at_line f)) → IsSheetRefusal sheet end
sheet_refused_by sheet end f is says = record { fault = f; stands = is; refuses = refuses end Sheet (refusal_line (at_line f)) says }

short_fault : (sheet : List ℕ) → length sheet ≤ 2 ^ 24 → text_fault sheet ≡ line_fault sheet
short_fault sheet short = rw (not_longer (length sheet) (2 ^ 24) short) refl

long_fault : (sheet : List ℕ) → 2 ^ 24 < length sheet → text_fault sheet ≡ Some (fault 1 50)
long_fault sheet long = rw (longer (length sheet) (2 ^ 24) long) refl

long_sheet : (end : Ending) (file : Option (List ℕ)) → end ≡ refusal Sheet (refusal_line (at_line (fault 1 50)))
    → IsSomeAnd file (λ text. 2 ^ 24 < length text) → IsSomeAnd file (λ text. IsSheetRefusal text end)
long_sheet end None says long = absurd long
long_sheet end (Some text) says long = sheet_refused_by text end (fault 1 50) (long_fault text long) says

-- a file of too many bytes
pub sheet_refused_long : (told : Option Files) (name : List ℕ) (end : Ending) → end ≡ refusal Sheet (refusal_line (at_line (fault 1 50)))
    → IfSome told (λ files. IsSomeAnd (files name) (λ text. 2 ^ 24 < length text)) → IsSheetRefused told name end
sheet_refused_long None name end says long = record { status = ap (λ (x : Ending). x.status) says; out = ap (λ (x : Ending). x.out) says; due = tt }
sheet_refused_long (Some files) name end says long = record { status = ap (λ (x : Ending). x.status) says; out = ap (λ (x : Ending). x.out) says; due = long_sheet end (files name) says long }

sheet_refused_text : (told : Option Files) (name text : List ℕ) (end : Ending) → Has told name text → IsSheetRefusal text end → IsSheetRefused told name end
sheet_refused_text None name text end has is = record { status = is.refuses.status; out = is.refuses.out; due = tt }
sheet_refused_text (Some files) name text end has is = record { status = is.refuses.status; out = is.refuses.out; due = rw has is }

-- a text with a fault
pub sheet_refused : (told : Option Files) (name text : List ℕ) (end : Ending) (f : Fault) → length text ≤ 2 ^ 24 → Has told name text
    → line_fault text ≡ Some f → end ≡ refusal Sheet (refusal_line (at_line f)) → IsSheetRefused told name end
sheet_refused told name text end f short has is says = sheet_refused_text told name text end has (sheet_refused_by text end f (short_fault text short ∙ is) says)

-- a text without one
pub opened_sheet : (told : Option Files) (name text : List ℕ) (sheet : sheets.Sheet) → length text ≤ 2 ^ 24 → Has told name text → reading.Reads text sheet → IsOpenSheet told name sheet
opened_sheet told name text sheet short has reads = record { text = text; has = has; readable = record { no_fault = short_fault text short ∙ reads.sound }; reads = reads }

-- what was opened is what the text of its file says
pub said : (told : Option Files) (before now : List ℕ → ℕ) (name : List ℕ) (o : OpenedSheet) → IsOpenedSheet told before now name o → SaysWhatIsSaid o
said told before now name (opened.Sheet sheet) is = record { text = is.text; says = record { sound = is.readable.no_fault; reads = is.reads } }
said told before now name (opened.Refused end) is = tt
