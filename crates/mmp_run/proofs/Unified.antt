-- From the outcome of unifying to the ending of the call.
use Rattle.std.proofs.Common.{◌≡◌, ℕ, List, Option, Some, None, Result, Ok, Err, IfOk, IfSome, IsSome, ◌∙◌, ap, true, false}
use Rattle.std.specs.List.{flat_map}
use Rattle.call_answers.specs.declared.ending.Ending.{Ending}
use Rattle.call_answers.specs.Endings.{Shows, status_of}
use Rattle.fault_lines.specs.FaultLines.{refusal_line}
use Rattle.fault_lines.specs.Refusals.{Refusal}
use Rattle.headline_laws.specs.Unified.{AnswerIsUnified}
use Rattle.mm_base.specs.declared.errors.Memory as memory
use Rattle.mm_base.specs.declared.status.Status.TheVariants as status
use Rattle.mm_database.specs.Books.{database_of}
use Rattle.mm_database.specs.Opened as opened
use Rattle.mm_model.specs.Book.{Database}
use Rattle.mmp_run.specs.Refusals.{refusal}
use Rattle.mmp_run.specs.Refused.{IsUnified}
use Rattle.mmp_run.proofs.Refusals.{refuses}
use Rattle.sheet_text.specs.Layout.{ended}
use Rattle.sheet_unify.specs.Answered.{IsOutcome, IsFaultOf, IsWritten, refusal_of}
use Rattle.sheet_unify.specs.declared.faults.UnifyFault.{UnifyFault}
use Rattle.sheet_unify.specs.declared.outcome.Outcome.{Outcome}
use Rattle.written_model.specs.declared.options.Options.{Options}
use Rattle.written_model.specs.declared.report.ReportLine.{ReportLine}
use Rattle.written_model.specs.Report.{report_lines}
use Rattle.written_model.specs.Written.{Answer, Answers, Writing, wrote, refused, written_log, written_report}

-- the report, by what was written
pub log_of : (db : Database) (options : Options) (w : Writing) (outcome : Outcome) (log : List ℕ) → IsWritten db options w outcome
    → log ≡ flat_map ended (report_lines db outcome.report outcome.finished) → log ≡ flat_map ended (written_log db options w)
log_of db options w outcome log is e =
    e ∙ ap (flat_map ended) (ap (λ (r : List ReportLine). report_lines db r outcome.finished) is.report ∙ ap (report_lines db (written_report db options w)) is.finished)

pub shown : (db : Database) (options : Options) (w : Writing) (outcome : Outcome) (end : Ending) → IsWritten db options w outcome → end.out ≡ outcome.text
    → end.log ≡ flat_map ended (report_lines db outcome.report outcome.finished) → end.status ≡ status_of outcome.finished → Shows db options w end
shown db options w outcome end is out log st = record {
  out = out ∙ is.text;
  log = log_of db options w outcome end.log is log;
  status = st ∙ ap status_of is.finished;
}

-- the laws of answers
abbrev pub AllUnify : Type 0
AllUnify = (db : Database) (text : List ℕ) (options : Options) (answer : Answer) (end : Ending) → AnswerIsUnified db text options answer end

abbrev pub book : Options → List ℕ → opened.Opened → Database
book options database d = database_of options.kinds database d.rows d.parsed

pub outcome_unifies : AllUnify → (options : Options) (database text : List ℕ) (d : opened.Opened) (outcome : Outcome) (end : Result Ending memory.Memory) → opened.IsOpened options.kinds database d
    → IsOutcome (book options database d) text options outcome
    → ((w : Writing) → IsWritten (book options database d) options w outcome → IfOk end (Shows (book options database d) options w))
    → IfOk end (IsUnified options database text)
outcome_unifies law options database text d outcome (Err e) is is_outcome shows = tt
outcome_unifies law options database text d outcome (Ok end) is is_outcome shows =
    record {
      db = book options database d;
      is_database = is.database;
      unifies = law (book options database d) text options (wrote is_outcome.writing) end
          (record { text = database; sound = is.no_fault; is_database = is.database }) is_outcome.answers (shows is_outcome.writing is_outcome.written);
    }

-- the first fault of the worksheet, and the line that tells it
told_refusal : AllUnify → (options : Options) (database text : List ℕ) (d : opened.Opened) (r : Option Refusal) (end : Ending) → opened.IsOpened options.kinds database d
    → IsSome r → IfSome r (λ q. Answers (book options database d) text options (refused q)) → IfSome r (λ q. end ≡ refusal status.Sheet (refusal_line q)) → IsUnified options database text end
told_refusal law options database text d None end is some answers says = let clash : false ≡ true = some in absurd (cc)
told_refusal law options database text d (Some r) end is some answers says =
    record {
      db = book options database d;
      is_database = is.database;
      unifies = law (book options database d) text options (refused r) end
          (record { text = database; sound = is.no_fault; is_database = is.database }) answers (refuses end status.Sheet (refusal_line r) says);
    }

pub fault_unifies : AllUnify → (options : Options) (database text : List ℕ) (d : opened.Opened) (fault : UnifyFault) (end : Result Ending memory.Memory) → opened.IsOpened options.kinds database d
    → IsFaultOf (book options database d) text options fault → IfOk end (λ e. IsSome (refusal_of fault)) → IfOk end (λ e. IfSome (refusal_of fault) (λ r. e ≡ refusal status.Sheet (refusal_line r)))
    → IfOk end (IsUnified options database text)
fault_unifies law options database text d fault (Err e) is answers some says = tt
fault_unifies law options database text d fault (Ok end) is answers some says = told_refusal law options database text d (refusal_of fault) end is some answers says
