-- What came of a worksheet over a database.
use Rattle.std.specs.Prelude.{◌≤◌, ℕ, List, length}
use Rattle.mm_database.specs.Books.{database_of}
use Rattle.mm_database.specs.Opened.{Opened, IsOpened}
use Rattle.sheet_unify.specs.Answered.{IsOutcome}
use Rattle.sheet_unify.specs.declared.outcome.Outcome.{Outcome}
use Rattle.written_model.specs.declared.options.Options.{Options}

-- this came of some worksheet over this database, which was opened from some text with the kinds of some options
pub record IsOutcomeOver (d : Opened) (outcome : Outcome) : Type 0 where
  pub options : Options
  pub database : List ℕ
  pub sheet : List ℕ
  pub opened : IsOpened options.kinds database d
  pub is_outcome : IsOutcome (database_of options.kinds database d.rows d.parsed) sheet options outcome

-- the law: the place of what came of a worksheet is one of the database
abbrev pub OutcomesHavePlaces : Type 0
OutcomesHavePlaces = (d : Opened) (outcome : Outcome) → IsOutcomeOver d outcome → outcome.place ≤ length d.contents.entries
