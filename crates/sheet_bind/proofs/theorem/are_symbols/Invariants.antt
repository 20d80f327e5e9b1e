use Rattle.std.proofs.Common.{◌≡◌, take, true}
use Rattle.std.specs.List.{list_all}
use Rattle.sheet_bind.specs.Theorems.{is_symbol}
use Rattle.sheet_bind.proofs.theorem.are_symbols.Given as goal

abbrev pub invariant-loop-token : goal.invariant-loop-token
invariant-loop-token l = list_all (is_symbol l.frames.symbols) (take l.token-index l.tokens) ≡ true
