use Rattle.std.proofs.Common.{◌≡◌, drop}
use Rattle.distinct_vars.specs.Values.{value_at}
use Rattle.distinct_vars.proofs.values.value.Given as goal

abbrev pub invariant-loop-i : goal.invariant-loop-i
invariant-loop-i l = value_at l.vars l.trees l.symbol ≡ value_at (drop l.i l.vars) (drop l.i l.trees) l.symbol
