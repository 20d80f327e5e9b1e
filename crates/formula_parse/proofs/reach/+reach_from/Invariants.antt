use Rattle.std.proofs.Common.{length}
use Rattle.formula_parse.proofs.reach.+reach_from.Given as goal

abbrev pub decreases-reach_from : goal.decreases-reach_from
decreases-reach_from l = length l.items.now
