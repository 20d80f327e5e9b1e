-- From what came of a worksheet to the ending of `install`.
use Rattle.std.proofs.Common.{◌≡◌, ℕ, List, length, true, false, Option, Some, None, Result, Ok, Err, IfOk, IfSome, IsSome, ◌∙◌, sym}
use Rattle.call_answers.specs.declared.ending.Ending.{Ending}
use Rattle.call_answers.specs.Kept.{LawOfInstalling}
use Rattle.call_answers.specs.PutsIn.{PutsIn, ShowsReport}
use Rattle.fault_lines.specs.FaultLines.{refusal_line}
use Rattle.fault_lines.specs.Refusals.{Refusal}
use Rattle.install_model.specs.InstallAnswers as answers
use Rattle.install_model.specs.InstallAnswers.{theorem_there_line, database_too_large_line}
use Rattle.install_model.specs.Installed.{installed_text}
use Rattle.mm_base.specs.declared.errors.Memory as memory
use Rattle.mm_base.specs.declared.status.Status.TheVariants as status
use Rattle.mm_database.specs.Opened.{Opened, IsOpened}
use Rattle.mm_model.specs.Book.{Database, IsDatabaseOf}
use Rattle.mm_model.specs.Statements.{database_fault}
use Rattle.mmp_run.specs.Installed.{IsInstalled, TellsInstall, TellsText}
use Rattle.mmp_run.specs.Installed as made
use Rattle.mmp_run.specs.Refusals.{refusal}
use Rattle.mmp_run.proofs.Refusals.{refuses}
use Rattle.mmp_run.proofs.Unified.{book}
use Rattle.sheet_unify.specs.Answered.{IsOutcome, IsFaultOf, IsWritten, refusal_of}
use Rattle.sheet_unify.specs.declared.faults.UnifyFault.{UnifyFault}
use Rattle.sheet_unify.specs.declared.outcome.Outcome.{Outcome}
use Rattle.written_model.specs.declared.options.Options.{Options}
use Rattle.written_model.specs.Written.{Answers, Writing, wrote, refused}

-- a worksheet that is not finished
pub tells_open : (db : Database) (options : Options) (w : Writing) (text : List ℕ) (outcome : Outcome) (end : Result Ending memory.Memory) → IsWritten db options w outcome
    → outcome.existing ≡ false → outcome.finished ≡ false → IfOk end (ShowsReport db options w) → IfOk end (TellsInstall db options w text)
tells_open db options w text outcome (Err e) is new not_done shows = tt
tells_open db options w text outcome (Ok end) is new not_done shows =
    made.is_open (sym is.existing ∙ new) (sym is.finished ∙ not_done) shows

puts_text : (law : LawOfInstalling) (db : Database) (options : Options) (text sheet : List ℕ) (w : Writing) (end : Ending) → database_fault text ≡ None
    → IsDatabaseOf options.kinds text db → Answers db sheet options (wrote w) → w.bound.existing ≡ false → w.finished ≡ true → TellsText db options w text end → PutsIn db options text sheet end
puts_text law db options text sheet w end sound book is new done (made.large long says) = record {
  answer = answers.too_large (length (installed_text db options w text));
  installs = answers.is_large is new done long;
  gives = refuses end status.Sheet (database_too_large_line (length (installed_text db options w text))) says;
  keeps = tt;
}
puts_text law db options text sheet w end sound book is new done (made.put_in short shows) = record {
  answer = answers.put_in w (installed_text db options w text);
  installs = answers.is_put_in is new done short;
  gives = shows;
  keeps = law options text sheet db w sound book is new done short;
}

puts : (law : LawOfInstalling) (db : Database) (options : Options) (text sheet : List ℕ) (w : Writing) (end : Ending) → database_fault text ≡ None
    → IsDatabaseOf options.kinds text db → Answers db sheet options (wrote w) → TellsInstall db options w text end → PutsIn db options text sheet end
puts law db options text sheet w end sound book is (made.is_there there says) =
    record { answer = answers.theorem_there; installs = answers.is_there is there; gives = refuses end status.Sheet theorem_there_line says; keeps = tt }
puts law db options text sheet w end sound book is (made.is_open new not_done shows) =
    record { answer = answers.unfinished w; installs = answers.is_open is new not_done; gives = shows; keeps = tt }
puts law db options text sheet w end sound book is (made.done new done tells) = puts_text law db options text sheet w end sound book is new done tells

pub outcome_installs : (law : LawOfInstalling) (options : Options) (text sheet : List ℕ) (d : Opened) (outcome : Outcome) (end : Result Ending memory.Memory)
    → IsOpened options.kinds text d → IsOutcome (book options text d) sheet options outcome
    → ((w : Writing) → IsWritten (book options text d) options w outcome → IfOk end (TellsInstall (book options text d) options w text)) → IfOk end (IsInstalled options text sheet)
outcome_installs law options text sheet d outcome (Err e) opened is tells = tt
outcome_installs law options text sheet d outcome (Ok end) opened is tells = record {
  db = book options text d;
  is_database = opened.database;
  puts_in = puts law (book options text d) options text sheet is.writing end opened.no_fault opened.database is.answers (tells is.writing is.written);
}

told : (options : Options) (text sheet : List ℕ) (d : Opened) (r : Option Refusal) (end : Ending) → IsOpened options.kinds text d → IsSome r
    → IfSome r (λ q. Answers (book options text d) sheet options (refused q)) → IfSome r (λ q. end ≡ refusal status.Sheet (refusal_line q)) → IsInstalled options text sheet end
told options text sheet d None end opened some is says = let clash : false ≡ true = some in absurd (cc)
told options text sheet d (Some r) end opened some is says = record {
  db = book options text d;
  is_database = opened.database;
  puts_in = record { answer = answers.bad_sheet r; installs = answers.refuses is; gives = refuses end status.Sheet (refusal_line r) says; keeps = tt };
}

pub fault_installs : (options : Options) (text sheet : List ℕ) (d : Opened) (fault : UnifyFault) (end : Result Ending memory.Memory) → IsOpened options.kinds text d
    → IsFaultOf (book options text d) sheet options fault → IfOk end (λ e. IsSome (refusal_of fault))
    → IfOk end (λ e. IfSome (refusal_of fault) (λ r. e ≡ refusal status.Sheet (refusal_line r))) → IfOk end (IsInstalled options text sheet)
fault_installs options text sheet d fault (Err e) opened is some says = tt
fault_installs options text sheet d fault (Ok end) opened is some says = told options text sheet d (refusal_of fault) end opened some is says
