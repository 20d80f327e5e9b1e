-- What is counted is few beside the numbers that a work variable may have.
use Rattle.std.specs.Prelude.{◌≤◌, ◌^◌, ℕ, List, length}
use Rattle.mm_base.specs.declared.kinds.Kinds.{Kinds}
use Rattle.mm_base.specs.Limits.{most_work_size, most_database_bytes}
use Rattle.mm_database.specs.Books.{database_of}
use Rattle.mm_database.specs.Opened.{Opened, IsOpened}
use Rattle.sheet_text.specs.declared.sheet.Sheet.{Sheet}
use Rattle.solve_model.specs.declared.bound.Bound.{Bound}
use Rattle.solve_model.specs.Bound.{Binds, work_size}
use Rattle.leaf_names.specs.Tables.{read_leaves}

-- the symbols of the database of a text
abbrev pub SymbolsAreBelow : Type 0
SymbolsAreBelow = (kinds : Kinds) (text : List ℕ) (d : Opened) → IsOpened kinds text d → length d.contents.symbols ≤ most_database_bytes

-- the work variables of a worksheet whose work size is within the limit
abbrev pub WorksAreBelow : Type 0
WorksAreBelow =
    (kinds : Kinds) (text : List ℕ) (d : Opened) (s : Sheet) (bound : Bound) → IsOpened kinds text d → Binds (database_of kinds text d.rows d.parsed) s bound
    → work_size (database_of kinds text d.rows d.parsed) bound ≤ most_work_size → length (read_leaves d.rows bound) ≤ 2 ^ 28
