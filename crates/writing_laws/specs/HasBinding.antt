-- Each worksheet is bound, or has a first fault over the database.
use Rattle.std.specs.Prelude.{◌⊎◌}
use Rattle.mm_base.specs.declared.kinds.Kinds.{Kinds}
use Rattle.mm_model.specs.Faults.{Fault}
use Rattle.mm_model.specs.Book.{Database}
use Rattle.sheet_text.specs.declared.sheet.Sheet.{Sheet}
use Rattle.solve_model.specs.declared.bound.Bound.{Bound}
use Rattle.solve_model.specs.BindFaults.{IsBindFault}
use Rattle.solve_model.specs.Bound.{Binds}
use Rattle.written_model.specs.Opened.{IsOpened}

abbrev pub HasBinding : Kinds → Database → Type 0
HasBinding kinds db = (s : Sheet) → IsOpened kinds db → ((f : Fault) × IsBindFault db s f) ⊎ ((bound : Bound) × Binds db s bound)
