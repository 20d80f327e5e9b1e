-- What the texts of a database and of a worksheet give where a step is asked about. This is part of the proof, and not of the
-- claim.
use Rattle.std.specs.Prelude.{ℕ, List}
use Rattle.call_answers.specs.declared.ending.Ending.{Ending}
use Rattle.call_answers.specs.Asks.{Asks}
use Rattle.mm_model.specs.Book.{Database, IsDatabaseOf}
use Rattle.mm_model.specs.Names.{Name}
use Rattle.written_model.specs.declared.options.Options.{Options}

-- the answer of the step of a name in a worksheet over the text of a database without a fault
pub record IsAsked (options : Options) (database sheet : List ℕ) (step : Name) (end : Ending) : Type 0 where
  pub db : Database
  pub is_database : IsDatabaseOf options.kinds database db
  pub asks : Asks db options sheet step end
