-- Part of the proof, and not of the claim: what stands in a table at a symbol.
use Rattle.std.specs.Prelude.{ℕ, List, slice_get}
use Rattle.std.specs.Global.{Vec}
use Rattle.mm_base.specs.Rows.{items_of}
use Rattle.syntax_grammar.specs.declared.table.Table.{Table}

abbrev pub listed_in : List (Vec ℕ) → ℕ → List ℕ
listed_in lists q = items_of (slice_get lists q)

abbrev pub listed : Table → ℕ → List ℕ
listed x q = listed_in x.lists.items q
