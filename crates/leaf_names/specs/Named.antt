-- The names of the leaves of some trees, over a database and a worksheet as it was read.
use Rattle.std.specs.Prelude.{◌≡◌, ◌++◌, ℕ, List, flat_map, Contains}
use Rattle.mm_base.specs.declared.kinds.Kinds.{Kinds}
use Rattle.mm_base.specs.declared.tree.Tree.{Tree}
use Rattle.mm_database.specs.Books.{database_of}
use Rattle.mm_database.specs.Opened.{Opened, IsOpened}
use Rattle.solve_model.specs.declared.bound.Bound.{Bound}
use Rattle.written_model.specs.Named.{IsNaming}
use Rattle.writing_laws.specs.HasNames.{IsWritable}
use Rattle.leaf_names.specs.Leaves.{FreshLeaf, fresh_leaves}
use Rattle.leaf_names.specs.Tables.{NamedLeaf, Table, AreNamed, Adds, AreRead, read_leaves, naming_of}

-- it names just the fresh leaves of these trees, in their order, over this database and this worksheet
pub record IsNamesOf (d : Opened) (bound : Bound) (ts : List Tree) (t : Table) : Type 0 where
  pub symbols : t.symbols ≡ d.contents.symbols
  pub rows : t.rows ≡ d.rows
  pub read : AreRead (read_leaves d.rows bound) t.read
  pub named : AreNamed t.symbols t.read t.given (flat_map (fresh_leaves t.rows) ts)

-- the table with more leaves that have a name
abbrev pub with_more : Table → List NamedLeaf → Table
with_more t more = record t { given = t.given ++ more }

-- the first one adds these leaves to the other
pub record AddsTo (leaves : List FreshLeaf) (old new : Table) : Type 0 where
  pub symbols : new.symbols ≡ old.symbols
  pub rows : new.rows ≡ old.rows
  pub read : new.read ≡ old.read
  pub given : Adds old.symbols old.read leaves old.given new.given

-- the names of writable trees over the database of a text are those of the definitions
abbrev pub NamesAreNaming : Type 0
NamesAreNaming =
    (kinds : Kinds) (text : List ℕ) (d : Opened) (bound : Bound) (before : ℕ) (ts : List Tree) (t : Table) → IsOpened kinds text d → IsNamesOf d bound ts t
    → ((u : Tree) → Contains ts u → IsWritable (database_of kinds text d.rows d.parsed) bound before u)
    → IsNaming (database_of kinds text d.rows d.parsed) bound ts (naming_of t.given)
