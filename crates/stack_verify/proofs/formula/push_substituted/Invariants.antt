use Rattle.std.proofs.Common.{◌≡◌, ◌++◌, take}
use Rattle.proof_model.specs.Machine.{substituted}
use Rattle.stack_verify.specs.Taken.{taken}
use Rattle.stack_verify.proofs.formula.push_substituted.Given as goal

abbrev pub invariant-loop-symbol : goal.invariant-loop-symbol
invariant-loop-symbol l = l.out.items ≡ l.initial.out.items ++ substituted (taken l.entries) (take l.symbol-index l.formula)
