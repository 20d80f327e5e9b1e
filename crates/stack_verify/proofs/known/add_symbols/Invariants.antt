use Rattle.std.proofs.Common.{take}
use Rattle.stack_verify.specs.Contexts.{AddsSymbols}
use Rattle.stack_verify.proofs.known.add_symbols.Given as goal

abbrev pub invariant-loop-symbol : goal.invariant-loop-symbol
invariant-loop-symbol l = AddsSymbols l.initial.set l.set (take l.symbol-index l.symbols)
