use Rattle.std.proofs.Common.{◌-◌}
use Rattle.formula_parse.specs.Finds.{Finds}
use Rattle.formula_parse.specs.Fits.{IsDividedBelow}
use Rattle.formula_parse.specs.Charts.{span}
use Rattle.formula_parse.proofs.EntryTurns.{IsSoFar}
use Rattle.formula_parse.proofs.Weights.{tree_weight, items_weight, split_weight}
use Rattle.formula_parse.proofs.search.+parse.Given as goal

abbrev pub decreases-trees : goal.decreases-trees
decreases-trees l = tree_weight l.rows.now (l.end - l.begin) l.want

abbrev pub decreases-sequences : goal.decreases-sequences
decreases-sequences l = items_weight l.rows.now l.slots.now l.items.now (l.end - l.begin)

abbrev pub decreases-divisions : goal.decreases-divisions
decreases-divisions l = split_weight l.rows.now l.code l.items.now (l.end - l.begin)

abbrev pub invariant-trees-loop-entry : goal.invariant-trees-loop-entry
invariant-trees-loop-entry l = Finds (IsSoFar l.rows l.before l.leaves l.begin l.end l.want l.entry-items l.entry-index) l.found

abbrev pub invariant-divisions-loop-n : goal.invariant-divisions-loop-n
invariant-divisions-loop-n l = Finds (IsDividedBelow l.rows l.before l.slots l.items l.code (span l.leaves l.begin l.end) l.n) l.found
