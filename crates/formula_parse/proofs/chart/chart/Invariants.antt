use Rattle.std.proofs.Common.{◌-◌, length}
use Rattle.formula_parse.specs.Charts.{IsChart}
use Rattle.formula_parse.proofs.chart.chart.Given as goal

abbrev pub invariant-loop-k : goal.invariant-loop-k
invariant-loop-k l = IsChart l.g l.before l.leaves (length l.leaves - l.k) l.chart.items
