use Rattle.std.proofs.Common.{◌≡◌, length}
use Rattle.formula_parse.proofs.chart.empty_chart.Given as goal

abbrev pub invariant-loop : goal.invariant-loop
invariant-loop l = length l.chart.items ≡ l.counter
