-- The first fault of what is to be written.
use Rattle.std.specs.Prelude.{◌≡◌, ◌⊎◌, ℕ, List, length, None}
use Rattle.mm_model.specs.Book.{Database}
use Rattle.sheet_text.specs.declared.sheet.Sheet.{Sheet}
use Rattle.sheet_text.specs.TextFaults.{text_fault}
use Rattle.solve_model.specs.declared.bound.Bound.{Bound}
use Rattle.solve_model.specs.Firsts.{IsFirstIn}
use Rattle.solve_model.specs.Solutions.{Valuation}
use Rattle.solve_model.specs.Verdicts.{Judgement}
use Rattle.written_model.specs.declared.options.Options.{Options}
use Rattle.written_model.specs.Opened.{IsOpened}
use Rattle.written_model.specs.WrittenSteps.{WrittenStep, steps_in}
use Rattle.fault_lines.specs.Refusals.{Refusal, formula_too_long, told_number}
use Rattle.written_model.specs.Written.{Writing, step_tokens, IsTooLong, IsLate, HasNoLateFault, Answer, Answers}
use Rattle.writing_laws.specs.HasWriting.{IsSolved}

module _ (db : Database) (options : Options) (w : Writing) where
  -- there is no late fault, or a first one
  abbrev pub HasLate : Type 0
  HasLate = IsOpened options.kinds db → HasNoLateFault db options w ⊎ ((r : Refusal) × IsLate db options w r)

  -- where a formula is too long, the first that is, is the first late fault
  abbrev pub LongIsLate : Type 0
  LongIsLate = (e : WrittenStep) → IsFirstIn (IsTooLong db options w) (steps_in w.items) e
      → IsLate db options w (formula_too_long e.name (told_number (length (step_tokens db options w e))))

-- a worksheet that was read, judged and solved has an answer
abbrev pub SolvedIsAnswered : Type 0
SolvedIsAnswered = (db : Database) (text : List ℕ) (options : Options) (read : Sheet) (bound : Bound) (judgements : List Judgement) (value : Valuation)
    → IsOpened options.kinds db → text_fault text ≡ None → IsSolved db text read bound judgements value → (a : Answer) × Answers db text options a
