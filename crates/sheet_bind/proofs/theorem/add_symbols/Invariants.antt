use Rattle.std.proofs.Common.{◌≡◌, take, fold}
use Rattle.sheet_bind.specs.Theorems.{put_number}
use Rattle.sheet_bind.proofs.theorem.add_symbols.Given as goal

abbrev pub invariant-loop-symbol : goal.invariant-loop-symbol
invariant-loop-symbol l = l.used.keys ≡ fold put_number l.initial.used.keys (take l.symbol-index l.symbols)
