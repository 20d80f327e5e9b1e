use Rattle.std.proofs.Common.{◌≡◌, map, take}
use Rattle.sheet_theorem.proofs.parts.copy_names.Given as goal

abbrev pub invariant-loop-name : goal.invariant-loop-name
invariant-loop-name l = l.copies.items ≡ take l.name-index l.names
