-- Fresh leaves can be named.
use Rattle.std.specs.Prelude.{◌≡◌, ◌^◌, ◌<◌, ℕ, true, List, length, Contains}
use Rattle.mm_base.specs.declared.kinds.Kinds.{Kinds}
use Rattle.mm_base.specs.declared.symbols.Typecode.{Typecode}
use Rattle.mm_base.specs.declared.tree.Tree.{Tree}
use Rattle.mm_model.specs.Typed.{IsTyped}
use Rattle.mm_model.specs.Book.{Database}
use Rattle.solve_model.specs.declared.bound.Bound.{Bound}
use Rattle.solve_model.specs.Trees.{work, Occurs}
use Rattle.written_model.specs.Opened.{IsOpened}
use Rattle.written_model.specs.Named.{work_variable, is_in, read_works, Naming, IsNaming}

-- the tree is typed below a place, and each of its work variables is one of the worksheet as it was read
pub record IsWritable (db : Database) (bound : Bound) (before : ℕ) (t : Tree) : Type 0 where
  pub typed : IsTyped db.rows before t
  pub was_read : (c : Typecode) (n : ℕ) → Occurs (work c n) t → is_in (read_works db bound) (work_variable c n) ≡ true

-- fewer symbols than a program can number, so that some name of a work variable is no symbol
abbrev pub HasFewSymbols : Database → Type 0
HasFewSymbols db = length db.symbols < 2 ^ 64

-- the database of a text without a fault has few symbols
abbrev pub SymbolsAreFew : Type 0
SymbolsAreFew = (kinds : Kinds) (db : Database) → IsOpened kinds db → HasFewSymbols db

-- the fresh leaves of writable trees can be named
abbrev pub HasNaming : Kinds → Database → Bound → Type 0
HasNaming kinds db bound = (before : ℕ) (ts : List Tree) → IsOpened kinds db → ((t : Tree) → Contains ts t → IsWritable db bound before t) → (names : Naming) × IsNaming db bound ts names
