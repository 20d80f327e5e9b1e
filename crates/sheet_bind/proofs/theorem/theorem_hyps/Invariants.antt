use Rattle.std.proofs.Common.{◌≡◌, take, fold}
use Rattle.sheet_bind.specs.Theorems.{grown_of, put_item}
use Rattle.sheet_bind.proofs.theorem.theorem_hyps.Given as goal

abbrev pub invariant-loop-item : goal.invariant-loop-item
invariant-loop-item l = grown_of l.growing ≡ fold (put_item l.frames.symbols) (grown_of l.initial.growing) (take l.item-index l.items)
