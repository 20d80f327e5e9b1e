use Rattle.formula_parse.specs.Charts.{EntersNext}
use Rattle.formula_parse.proofs.Grows.{Grown}
use Rattle.formula_parse.proofs.chart.enter_behind.Given as goal

abbrev pub invariant-loop-start : goal.invariant-loop-start
invariant-loop-start l = Grown l.starts (λ x. Unit {0}) (λ x ys. EntersNext l.leaves l.chart l.g l.before l.first l.place x.end ys) l.fn.entries l.start-index l.entries
