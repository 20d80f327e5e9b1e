-- A finished worksheet's new theorem can be put into the text of its database.
use Rattle.std.specs.Prelude.{◌≡◌, ℕ, List, true, false, None}
use Rattle.mm_model.specs.Statements.{database_fault}
use Rattle.mm_model.specs.Book.{Database, IsDatabaseOf}
use Rattle.written_model.specs.declared.options.Options.{Options}
use Rattle.written_model.specs.Written.{Writing, Answers, wrote}
use Rattle.install_model.specs.Installed.{new_theorem}
use Rattle.installed_laws.specs.CanBePutIn.{CanBePutIn}

-- where a worksheet over the database of a text without a fault is finished, and its theorem is none of the database's, the theorem can be put in at its place
abbrev pub FinishedCanBePutIn : Type 0
FinishedCanBePutIn = (text sheet : List ℕ) (db : Database) (options : Options) (w : Writing) → database_fault text ≡ None → IsDatabaseOf options.kinds text db
    → Answers db sheet options (wrote w) → w.bound.existing ≡ false → w.finished ≡ true → CanBePutIn text w.bound.place (new_theorem db options w)
