use Rattle.std.proofs.Common.{length}
use Rattle.formula_parse.proofs.reach.+reach.Given as goal

abbrev pub decreases-reach : goal.decreases-reach
decreases-reach l = length l.items.now
