-- The constants that the store counts are those of the productions' texts.
use Rattle.std.specs.Prelude.{◌≡◌, ℕ, List, count_by, None, Some}
use Rattle.mm_base.specs.declared.symbols.Label.{Label}
use Rattle.mm_base.specs.declared.kinds.Kinds.{Kinds}
use Rattle.mm_model.specs.declared.rows.Production.{Production}
use Rattle.mm_model.specs.Statements.{database_fault}
use Rattle.mm_model.specs.Texts.{row_of}
use Rattle.mm_model.specs.Book.{Database, IsDatabaseOf}
use Rattle.chain_laws.specs.Adding.{is_constant, constants_in}

-- a production of the database of a text without a fault has fewer constants than a node can count
abbrev pub ConstantsAreCounted : Type 0
ConstantsAreCounted = (kinds : Kinds) (text : List ℕ) (db : Database) → IsDatabaseOf kinds text db → database_fault text ≡ None
    → (l : Label) (r : Production) → row_of db.rows l ≡ Some r → constants_in db.rows l ≡ count_by is_constant r.items
