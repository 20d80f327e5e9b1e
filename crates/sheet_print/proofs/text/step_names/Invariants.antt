use Rattle.std.proofs.Common.{◌≡◌, take}
use Rattle.sheet_print.specs.Pieces.{shown, names_of}
use Rattle.sheet_print.proofs.text.step_names.Given as goal

abbrev pub invariant-loop-item : goal.invariant-loop-item
invariant-loop-item l = shown l.names.items ≡ names_of (take l.item-index l.items)
