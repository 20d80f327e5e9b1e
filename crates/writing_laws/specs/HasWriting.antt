-- What was read, judged and solved becomes something.
use Rattle.std.specs.Prelude.{◌≡◌, ◌≤◌, ℕ, List}
use Rattle.mm_base.specs.Limits.{most_work_size}
use Rattle.mm_model.specs.Book.{Database}
use Rattle.sheet_text.specs.declared.sheet.Sheet.{Sheet}
use Rattle.sheet_text.specs.Reads.{ReadsAs}
use Rattle.solve_model.specs.declared.bound.Bound.{Bound}
use Rattle.solve_model.specs.Bound.{Binds, work_size}
use Rattle.solve_model.specs.Solutions.{Valuation}
use Rattle.solve_model.specs.Verdicts.{Judgement, AreJudged, accepted_in}
use Rattle.solve_model.specs.MostGeneral.{IsTheValuation}
use Rattle.written_model.specs.declared.options.Options.{Options}
use Rattle.written_model.specs.Opened.{IsOpened}
use Rattle.written_model.specs.Written.{Writing, Writes}

-- a worksheet without a fault of 40 to 49 and of 60 to 74, with its judgements and the most general valuation of its accepted steps
pub record IsSolved (db : Database) (text : List ℕ) (read : Sheet) (bound : Bound) (judgements : List Judgement) (value : Valuation) : Type 0 where
  pub reads : ReadsAs text read
  pub binds : Binds db reads.read bound
  pub within_limit : work_size db bound ≤ most_work_size
  pub judged : AreJudged db bound judgements
  pub most_general : IsTheValuation db bound (accepted_in judgements) value

-- what it becomes
pub record HasWriting (db : Database) (text : List ℕ) (options : Options) (read : Sheet) (bound : Bound) (judgements : List Judgement) (value : Valuation) : Type 0 where
  pub writing : Writing
  pub read_is : writing.read ≡ read
  pub bound_is : writing.bound ≡ bound
  pub judgements_are : writing.judgements ≡ judgements
  pub value_is : writing.value ≡ value
  pub writes : Writes db text options writing

abbrev pub SolvedIsWritten : Type 0
SolvedIsWritten = (db : Database) (text : List ℕ) (options : Options) (read : Sheet) (bound : Bound) (judgements : List Judgement) (value : Valuation)
    → IsOpened options.kinds db → IsSolved db text read bound judgements value → HasWriting db text options read bound judgements value
