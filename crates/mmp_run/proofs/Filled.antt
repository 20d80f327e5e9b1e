-- From what came of a worksheet, and of what it becomes with its steps filled, to the ending of `auto`.
use Rattle.std.proofs.Common.{◌≡◌, ℕ, List, true, false, Option, Some, None, Result, Ok, Err, IfOk, IfSome, IsSome, ◌∙◌}
use Rattle.auto_model.specs.AutoFilled.{AutoAnswers, bad_text}
use Rattle.call_answers.specs.declared.ending.Ending.{Ending}
use Rattle.call_answers.specs.Endings.{Gives, Shows}
use Rattle.fault_lines.specs.FaultLines.{refusal_line}
use Rattle.fault_lines.specs.Refusals.{Refusal}
use Rattle.headline_laws.specs.Filled.{AnswerIsFilled}
use Rattle.mm_base.specs.declared.errors.Memory as memory
use Rattle.mm_base.specs.declared.status.Status.TheVariants as status
use Rattle.mm_database.specs.Opened.{Opened, IsOpened}
use Rattle.mm_model.specs.Book.{Database}
use Rattle.mmp_run.specs.Filled.{IsFilled}
use Rattle.mmp_run.specs.Refusals.{refusal}
use Rattle.mmp_run.proofs.Refusals.{refuses}
use Rattle.mmp_run.proofs.Unified.{book}
use Rattle.sheet_filling.specs.Filling.{FillingIsTheAnswer, IsFilledText, IsOfWriting}
use Rattle.sheet_filling.specs.declared.written.WrittenFormulas.{WrittenFormulas}
use Rattle.sheet_unify.specs.Answered.{IsOutcome, IsFaultOf, IsWritten, refusal_of}
use Rattle.sheet_unify.specs.declared.faults.UnifyFault.{UnifyFault}
use Rattle.sheet_unify.specs.declared.outcome.Outcome.{Outcome}
use Rattle.written_model.specs.declared.options.Options.{Options}
use Rattle.written_model.specs.Written.{Answer, Answers, Writing, wrote, refused}

-- a worksheet as it is written is that of what came of it
pub is_of_writing : (db : Database) (options : Options) (w : Writing) (outcome : Outcome) (written : WrittenFormulas) → IsWritten db options w outcome
    → written.place ≡ outcome.place → written.mode ≡ options.dv → written.given.now ≡ outcome.given → written.trees.now ≡ outcome.trees
    → IsOfWriting db options w written outcome.sheet
is_of_writing db options w outcome written is place mode given trees = record {
  formulas = record { place = place ∙ is.place; mode = mode; given = given ∙ is.given; trees_are = trees ∙ is.trees_are };
  sheet_is = is.sheet;
}

-- ---- the laws of filled worksheets, and that of what is said of an answer

abbrev pub AllFill : Type 0
AllFill = (db : Database) (text : List ℕ) (options : Options) (answer : Answer) (end : Ending) → AnswerIsFilled db text options answer end

module _ (law : AllFill) (options : Options) (text sheet : List ℕ) (d : Opened) (is : IsOpened options.kinds text d) where
  with_answer : (answer : Answer) (end : Ending) → AutoAnswers (book options text d) sheet options answer → Gives (book options text d) options answer end → IsFilled options text sheet end
  with_answer answer end answers gives = record {
    db = book options text d;
    is_database = is.database;
    fills = law (book options text d) sheet options answer end (record { text = text; sound = is.no_fault; is_database = is.database }) answers gives;
  }

  told : (r : Option Refusal) (end : Ending) → IsSome r → IfSome r (λ q. AutoAnswers (book options text d) sheet options (refused q))
      → IfSome r (λ q. end ≡ refusal status.Sheet (refusal_line q)) → IsFilled options text sheet end
  told None end some answers says = let clash : false ≡ true = some in absurd (cc)
  told (Some r) end some answers says = with_answer (refused r) end answers (refuses end status.Sheet (refusal_line r) says)

  -- a fault of the first writing, or of the second
  told_fault : (r : Option Refusal) (end : Result Ending memory.Memory) → IfSome r (λ q. AutoAnswers (book options text d) sheet options (refused q))
      → IfOk end (λ e. IsSome r) → IfOk end (λ e. IfSome r (λ q. e ≡ refusal status.Sheet (refusal_line q))) → IfOk end (IsFilled options text sheet)
  told_fault r (Err e) answers some says = tt
  told_fault r (Ok end) answers some says = told r end some answers says

  if_some : (r : Option Refusal) (P Q : Refusal → Type 0) → ((q : Refusal) → P q → Q q) → IfSome r P → IfSome r Q
  if_some None P Q f h = tt
  if_some (Some q) P Q f h = f q h

  -- ---- the first writing

  pub first_fault_fills : (fault : UnifyFault) (end : Result Ending memory.Memory) → IsFaultOf (book options text d) sheet options fault → IfOk end (λ e. IsSome (refusal_of fault))
      → IfOk end (λ e. IfSome (refusal_of fault) (λ r. e ≡ refusal status.Sheet (refusal_line r))) → IfOk end (IsFilled options text sheet)
  first_fault_fills fault end found some says =
      told_fault (refusal_of fault) end
      (if_some (refusal_of fault) (λ q. Answers (book options text d) sheet options (refused q)) (λ q. AutoAnswers (book options text d) sheet options (refused q)) (λ q answers. bad_text answers) found)
      some says

  pub writing_fills : (outcome : Outcome) (end : Result Ending memory.Memory) → IsOutcome (book options text d) sheet options outcome
      → ((w : Writing) → Answers (book options text d) sheet options (wrote w) → IsWritten (book options text d) options w outcome → IfOk end (IsFilled options text sheet))
      → IfOk end (IsFilled options text sheet)
  writing_fills outcome end is_outcome fills = fills is_outcome.writing is_outcome.answers is_outcome.written

  -- ---- the second

  module _ (filling : FillingIsTheAnswer) (w : Writing) (filled : List ℕ) (answers : Answers (book options text d) sheet options (wrote w))
      (is_filled : IsFilledText (book options text d) options w filled) where
    pub outcome_fills : (outcome : Outcome) (end : Result Ending memory.Memory) → IsOutcome (book options text d) filled options outcome
        → ((v : Writing) → IsWritten (book options text d) options v outcome → IfOk end (Shows (book options text d) options v))
        → IfOk end (IsFilled options text sheet)
    outcome_fills outcome (Err e) is_outcome shows = tt
    outcome_fills outcome (Ok end) is_outcome shows =
        with_answer (wrote is_outcome.writing) end (filling (book options text d) options sheet w filled (wrote is_outcome.writing) answers is_filled is_outcome.answers)
        (shows is_outcome.writing is_outcome.written)

    pub fault_fills : (fault : UnifyFault) (end : Result Ending memory.Memory) → IsFaultOf (book options text d) filled options fault
        → IfOk end (λ e. IsSome (refusal_of fault)) → IfOk end (λ e. IfSome (refusal_of fault) (λ r. e ≡ refusal status.Sheet (refusal_line r)))
        → IfOk end (IsFilled options text sheet)
    fault_fills fault end found some says =
        told_fault (refusal_of fault) end
        (if_some (refusal_of fault) (λ q. Answers (book options text d) filled options (refused q)) (λ q. AutoAnswers (book options text d) sheet options (refused q))
        (λ q refuses. filling (book options text d) options sheet w filled (refused q) answers is_filled refuses) found)
        some says
