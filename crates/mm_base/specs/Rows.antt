-- What stands at a key.
use Rattle.std.specs.Prelude.{ℕ, List, [], nat_eq, Option, Some, None}
use Rattle.std.specs.HashMap.{get}
use Rattle.std.specs.Global.{Vec}
use Rattle.mm_base.specs.declared.rows.Rows.{Rows}

abbrev pub items_of : {T : Type 0} → Option (Vec T) → List T
items_of None = []
items_of (Some v) = v.items

abbrev pub row_at : {T : Type 0} → Rows T → ℕ → List T
row_at x q = items_of (get nat_eq x.rows q)
