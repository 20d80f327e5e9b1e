-- From what came of a worksheet to the ending of `select`.
use Rattle.std.proofs.Common.{◌≡◌, ℕ, List, true, false, Option, Some, None, Result, Ok, Err, IfOk, IfSome, IsSome, ◌∙◌, ap}
use Rattle.call_answers.specs.declared.ending.Ending.{Ending}
use Rattle.call_answers.specs.Asks.{Asks, GivesSelection}
use Rattle.fault_lines.specs.FaultLines.{refusal_line}
use Rattle.fault_lines.specs.Refusals.{Refusal}
use Rattle.mm_base.specs.declared.errors.Memory as memory
use Rattle.mm_base.specs.declared.status.Status.TheVariants as status
use Rattle.mm_database.specs.Opened.{Opened, IsOpened}
use Rattle.mm_model.specs.Book.{Database}
use Rattle.mm_model.specs.Names.{Name}
use Rattle.mmp_run.specs.Asked.{IsAsked}
use Rattle.mmp_run.specs.Refusals.{refusal}
use Rattle.mmp_run.proofs.Refusals.{refuses}
use Rattle.mmp_run.proofs.Unified.{book}
use Rattle.ref_select.specs.Selecting.{IsAnswer, IsOfWriting, SelectionIsTheAnswer, answer_of}
use Rattle.ref_select.specs.declared.written.Selection.{Selection}
use Rattle.ref_select.specs.declared.written.WrittenSheet.{WrittenSheet}
use Rattle.select_model.specs.Selected as answers
use Rattle.sheet_text.specs.declared.sheet.Sheet as sheets
use Rattle.sheet_unify.specs.Answered.{IsOutcome, IsFaultOf, IsWritten, refusal_of}
use Rattle.sheet_unify.specs.declared.faults.UnifyFault.{UnifyFault}
use Rattle.sheet_unify.specs.declared.outcome.Outcome.{Outcome}
use Rattle.written_model.specs.declared.options.Options.{Options}
use Rattle.written_model.specs.Written.{Answers, Writing, wrote, refused}

pub gives_no_step : (db : Database) (step : Name) (end : Result Ending memory.Memory) → IfOk end (λ e. e ≡ refusal status.Sheet (answers.no_such_step_line step))
    → IfOk end (GivesSelection db step answers.no_such_step)
gives_no_step db step (Err e) says = tt
gives_no_step db step (Ok end) says = refuses end status.Sheet (answers.no_such_step_line step) says

pub gives_open : (db : Database) (step : Name) (end : Result Ending memory.Memory) → IfOk end (λ e. e ≡ refusal status.Sheet (answers.step_open_line step))
    → IfOk end (GivesSelection db step answers.step_open)
gives_open db step (Err e) says = tt
gives_open db step (Ok end) says = refuses end status.Sheet (answers.step_open_line step) says

-- a worksheet as it is written is that of what came of it
pub is_of_writing : (db : Database) (options : Options) (w : Writing) (outcome : Outcome) (written : WrittenSheet) → IsWritten db options w outcome → written.place ≡ outcome.place
    → written.mode ≡ options.dv → written.given.now ≡ outcome.given → written.items.now ≡ outcome.sheet.items → written.trees.now ≡ outcome.trees → IsOfWriting db options w written
is_of_writing db options w outcome written is place mode given items trees =
    record { place = place ∙ is.place; mode = mode; given = given ∙ is.given; items = items ∙ ap (λ (s : sheets.Sheet). s.items) is.sheet; trees_are = trees ∙ is.trees_are }

-- what is answered of a step of what came of a worksheet is the answer
pub step_asked : (law : SelectionIsTheAnswer) (options : Options) (text sheet : List ℕ) (step : Name) (d : Opened) (w : Writing) (written : WrittenSheet) (s : Selection)
    (end : Result Ending memory.Memory) → IsOpened options.kinds text d → Answers (book options text d) sheet options (wrote w) → IsOfWriting (book options text d) options w written
    → IsAnswer d written step s → IfOk end (GivesSelection (book options text d) step (answer_of s)) → IfOk end (Asks (book options text d) options sheet step)
step_asked law options text sheet step d w written s (Err e) opened is of_writing found gives = tt
step_asked law options text sheet step d w written s (Ok end) opened is of_writing found gives =
    record { answer = answer_of s; selects = law options.kinds text d options sheet w written step s opened is of_writing found; gives = gives }

pub outcome_asks : (options : Options) (text sheet : List ℕ) (step : Name) (d : Opened) (outcome : Outcome) (end : Result Ending memory.Memory)
    → IsOpened options.kinds text d → IsOutcome (book options text d) sheet options outcome
    → ((w : Writing) → Answers (book options text d) sheet options (wrote w) → IsWritten (book options text d) options w outcome → IfOk end (Asks (book options text d) options sheet step))
    → IfOk end (IsAsked options text sheet step)
outcome_asks options text sheet step d outcome (Err e) opened is asks = tt
outcome_asks options text sheet step d outcome (Ok end) opened is asks =
    record { db = book options text d; is_database = opened.database; asks = asks is.writing is.answers is.written }

told : (options : Options) (text sheet : List ℕ) (step : Name) (d : Opened) (r : Option Refusal) (end : Ending) → IsOpened options.kinds text d → IsSome r
    → IfSome r (λ q. Answers (book options text d) sheet options (refused q)) → IfSome r (λ q. end ≡ refusal status.Sheet (refusal_line q)) → IsAsked options text sheet step end
told options text sheet step d None end opened some is says = let clash : false ≡ true = some in absurd (cc)
told options text sheet step d (Some r) end opened some is says = record {
  db = book options text d;
  is_database = opened.database;
  asks = record { answer = answers.bad_sheet r; selects = answers.refuses is; gives = refuses end status.Sheet (refusal_line r) says };
}

pub fault_asks : (options : Options) (text sheet : List ℕ) (step : Name) (d : Opened) (fault : UnifyFault) (end : Result Ending memory.Memory) → IsOpened options.kinds text d
    → IsFaultOf (book options text d) sheet options fault → IfOk end (λ e. IsSome (refusal_of fault))
    → IfOk end (λ e. IfSome (refusal_of fault) (λ r. e ≡ refusal status.Sheet (refusal_line r))) → IfOk end (IsAsked options text sheet step)
fault_asks options text sheet step d fault (Err e) opened is some says = tt
fault_asks options text sheet step d fault (Ok end) opened is some says = told options text sheet step d (refusal_of fault) end opened some is says
