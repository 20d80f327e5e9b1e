-- What the texts of a database and of a worksheet give where its steps are filled. This is part of the proof, and not of the claim.
use Rattle.std.specs.Prelude.{ℕ, List}
use Rattle.call_answers.specs.declared.ending.Ending.{Ending}
use Rattle.call_answers.specs.Fills.{Fills}
use Rattle.mm_model.specs.Book.{Database, IsDatabaseOf}
use Rattle.written_model.specs.declared.options.Options.{Options}

-- the answer to a worksheet with its steps filled, over the text of a database without a fault
pub record IsFilled (options : Options) (database sheet : List ℕ) (end : Ending) : Type 0 where
  pub db : Database
  pub is_database : IsDatabaseOf options.kinds database db
  pub fills : Fills db options sheet end
