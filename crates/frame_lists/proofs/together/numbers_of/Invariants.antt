use Rattle.std.proofs.Common.{◌≡◌, take, map}
use Rattle.mm_base.specs.declared.symbols.Sym.{Sym}
use Rattle.frame_lists.proofs.together.numbers_of.Given as goal

abbrev pub invariant-loop-symbol : goal.invariant-loop-symbol
invariant-loop-symbol l = l.numbers.items ≡ map (λ (s : Sym). s.0) (take l.symbol-index l.symbols)
