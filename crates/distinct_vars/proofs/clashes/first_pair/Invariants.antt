use Rattle.std.proofs.Common.{◌≡◌, drop}
use Rattle.distinct_vars.specs.Clashes.{first_at}
use Rattle.distinct_vars.proofs.clashes.first_pair.Given as goal

abbrev pub invariant-loop-pair : goal.invariant-loop-pair
invariant-loop-pair l = first_at l.vars l.trees l.pairs ≡ first_at l.vars l.trees (drop l.pair-index l.pairs)
