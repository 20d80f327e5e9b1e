use Rattle.std.proofs.Common.{◌≡◌, take}
use Rattle.std.specs.List.{zip}
use Rattle.proof_model.specs.Machine.{substituted}
use Rattle.proof_export.proofs.substitution.substituted.Given as goal

abbrev pub invariant-loop-symbol : goal.invariant-loop-symbol
invariant-loop-symbol l = l.out.items ≡ substituted (zip l.hyps l.entries) (take l.symbol-index l.formula)
