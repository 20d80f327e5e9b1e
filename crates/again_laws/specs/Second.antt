-- The written sheet as it is read again: it binds, with the trees that were written, and is not too much.
use Rattle.std.specs.Prelude.{◌≡◌, ℕ, ◌<◌, ◌≤◌, ◌^◌, List, Contains, Some}
use Rattle.mm_base.specs.declared.symbols.Typecode.{Typecode}
use Rattle.mm_base.specs.Limits.{most_work_size}
use Rattle.mm_model.specs.Book.{Database}
use Rattle.sheet_text.specs.declared.sheet.Sheet.{Sheet}
use Rattle.sheet_text.specs.Reads.{unnumbered}
use Rattle.solve_model.specs.declared.bound.Bound.{Bound}
use Rattle.solve_model.specs.Bound.{Binds, work_size}
use Rattle.solve_model.specs.Formulas.{IsTreeOf}
use Rattle.written_model.specs.declared.options.Options.{Options}
use Rattle.written_model.specs.Opened.{IsOpened}
use Rattle.written_model.specs.WrittenSteps.{WrittenStep, steps_in}
use Rattle.written_model.specs.Named.{Naming}
use Rattle.written_model.specs.Written.{Writing, Writes, HasNoLateFault, formula_tokens, written_sheet, written_bound}

-- the written sheet has no fault over the database, and its trees are those that were written
abbrev pub WrittenSheetBinds : Database → List ℕ → Options → Writing → Type 0
WrittenSheetBinds db text options w = IsOpened options.kinds db → Writes db text options w → HasNoLateFault db options w → Binds db (written_sheet db options w) (written_bound db options w)

-- its work size is within the limit
abbrev pub WrittenIsWithin : Database → Options → Writing → Type 0
WrittenIsWithin db options w = HasNoLateFault db options w → work_size db (written_bound db options w) ≤ most_work_size

-- the numbers of new work variables are such as a token may have
abbrev pub NumbersFit : Naming → Type 0
NumbersFit names = (c : Typecode) (n k : ℕ) → names c n ≡ Some k → k < 2 ^ 32

-- a written formula is read as its tree, also where a fault of what is written stands
abbrev pub WrittenTreesReadBack : Database → List ℕ → Options → Writing → Type 0
WrittenTreesReadBack db text options w = IsOpened options.kinds db → Writes db text options w → NumbersFit w.names
    → (e : WrittenStep) → Contains (steps_in w.items) e → IsTreeOf db w.bound.place (formula_tokens db e.tree) e.tree

-- what binds does not rest on the numbers of lines
abbrev pub BindsWithoutLines : Type 0
BindsWithoutLines = (db : Database) (s t : Sheet) (bound : Bound) → unnumbered s ≡ unnumbered t → Binds db s bound → Binds db t bound
