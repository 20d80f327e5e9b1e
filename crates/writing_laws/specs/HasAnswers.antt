-- Each text has an answer, where it is decided what can be solved.
use Rattle.std.specs.Prelude.{ℕ, List}
use Rattle.std.specs.List.{AllByRecursion}
use Rattle.mm_base.specs.declared.kinds.Kinds.{Kinds}
use Rattle.mm_model.specs.Book.{Database}
use Rattle.sheet_text.specs.declared.sheet.Sheet.{Sheet}
use Rattle.sheet_text.specs.Reads.{Reads}
use Rattle.solve_model.specs.declared.bound.Bound.{Bound}
use Rattle.solve_model.specs.Bound.{Binds}
use Rattle.solve_model.specs.Solutions.{Asked, Solvable}
use Rattle.solve_model.specs.Verdicts.{Judgement, AreJudged, accepted_in}
use Rattle.written_model.specs.declared.options.Options.{Options}
use Rattle.written_model.specs.Existence.{IsCandidate, HasMostGeneral, HasAnswer}
use Rattle.written_model.specs.Opened.{IsOpened}
use Rattle.writing_laws.specs.Decisions.{Decided}

-- it is decided whether candidates can be solved together
abbrev pub SolvingIsDecided : Database → Bound → Type 0
SolvingIsDecided db bound = (asked : List Asked) → AllByRecursion (IsCandidate db bound) asked → Decided (Solvable db bound asked)

-- the judgements of a worksheet's steps, of which the accepted ones are candidates that can be solved together
pub record HasJudgements (db : Database) (bound : Bound) : Type 0 where
  pub judgements : List Judgement
  pub judged : AreJudged db bound judgements
  pub candidates : AllByRecursion (IsCandidate db bound) (accepted_in judgements)
  pub solvable : Solvable db bound (accepted_in judgements)

abbrev pub BoundIsJudged : Kinds → Database → Type 0
BoundIsJudged kinds db = (text : List ℕ) (s : Sheet) (bound : Bound) → IsOpened kinds db → Reads text s → Binds db s bound → SolvingIsDecided db bound → HasJudgements db bound

-- each text has an answer, where it is decided what can be solved, and what can be solved has a most general valuation
abbrev pub AnswerByParts : Database → List ℕ → Options → Type 0
AnswerByParts db text options = ((s : Sheet) (bound : Bound) → Binds db s bound → SolvingIsDecided db bound)
    → ((s : Sheet) (bound : Bound) (accepted : List Asked) → HasMostGeneral options.kinds db s bound accepted) → HasAnswer db text options
