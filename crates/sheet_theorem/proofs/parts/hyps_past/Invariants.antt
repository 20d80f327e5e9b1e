use Rattle.std.proofs.Common.{◌≡◌, take, fold}
use Rattle.sheet_theorem.specs.Parts.{grown_of, put_item}
use Rattle.sheet_theorem.proofs.parts.hyps_past.Given as goal

abbrev pub invariant-loop-item : goal.invariant-loop-item
invariant-loop-item l = grown_of l.growing ≡ fold put_item (grown_of l.initial.growing) (take l.item-index l.items)
