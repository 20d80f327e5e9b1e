use Rattle.formula_parse.specs.Charts.{IsStart, Enters}
use Rattle.formula_parse.proofs.Grows.{Grown}
use Rattle.formula_parse.proofs.chart.enter_all.Given as goal

abbrev pub invariant-loop-number : goal.invariant-loop-number
invariant-loop-number l = Grown l.numbers (IsStart l.g l.before l.first) (λ i ys. Enters l.leaves l.chart l.g i l.place ys) l.fn.entries l.number-index l.entries
