-- Two answers to one step of one worksheet.
use Rattle.std.specs.Prelude.{◌≡◌, ℕ, List}
use Rattle.mm_model.specs.Book.{Database}
use Rattle.mm_model.specs.Names.{Name}
use Rattle.select_model.specs.Selected.{SelectAnswer, Selects}
use Rattle.written_model.specs.declared.options.Options.{Options}
use Rattle.written_model.specs.Opened.{IsOpened}

-- the law: over the database of a text without a fault they are the same
abbrev pub SelectionsAreOne : Type 0
SelectionsAreOne = (db : Database) (options : Options) (sheet : List ℕ) (name : Name) (a b : SelectAnswer) → IsOpened options.kinds db
    → Selects db options sheet name a → Selects db options sheet name b → a ≡ b
