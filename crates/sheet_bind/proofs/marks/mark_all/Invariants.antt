use Rattle.std.proofs.Common.{◌≡◌, fold, take}
use Rattle.sheet_bind.specs.Marks.{mark}
use Rattle.sheet_bind.proofs.marks.mark_all.Given as goal

abbrev pub invariant-loop-symbol : goal.invariant-loop-symbol
invariant-loop-symbol l = l.marks ≡ fold mark l.initial.marks (take l.symbol-index l.symbols)
