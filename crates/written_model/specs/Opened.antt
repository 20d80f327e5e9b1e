-- The databases that worksheets are unified over.
use Rattle.std.specs.Prelude.{◌≡◌, ℕ, List, None}
use Rattle.mm_base.specs.declared.kinds.Kinds.{Kinds}
use Rattle.mm_model.specs.Statements.{database_fault}
use Rattle.mm_model.specs.Book.{Database, IsDatabaseOf}

-- it is that of a text without a fault
pub record IsOpened (kinds : Kinds) (db : Database) : Type 0 where
  pub text : List ℕ
  pub sound : database_fault text ≡ None
  pub is_database : IsDatabaseOf kinds text db
