use Rattle.std.proofs.Common.{◌≡◌, map, take}
use Rattle.sheet_writing.specs.Sheets.{sheet_item}
use Rattle.sheet_writing.proofs.writing.written_items.Given as goal

abbrev pub invariant-loop-item : goal.invariant-loop-item
invariant-loop-item l = l.written.items ≡ map (sheet_item l.db l.provable) (take l.item-index l.items)
