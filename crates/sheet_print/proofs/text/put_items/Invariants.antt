use Rattle.std.proofs.Common.{◌≡◌, ◌++◌, take}
use Rattle.std.specs.Prelude.{flat_map}
use Rattle.sheet_print.specs.Pieces.{shown, item_text}
use Rattle.sheet_print.proofs.text.put_items.Given as goal

abbrev pub invariant-loop-item : goal.invariant-loop-item
invariant-loop-item l = l.text.items ≡ l.initial.text.items ++ flat_map (item_text (shown l.names)) (take l.item-index l.items)
