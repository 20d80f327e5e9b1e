use Rattle.std.proofs.Common.{◌≡◌, ◌++◌, take}
use Rattle.stack_verify.specs.Pairs.{variables_in}
use Rattle.stack_verify.proofs.pairs.push_variables.Given as goal

abbrev pub invariant-loop-symbol : goal.invariant-loop-symbol
invariant-loop-symbol l = l.out.items ≡ l.initial.out.items ++ variables_in l.known (take l.symbol-index l.formula)
