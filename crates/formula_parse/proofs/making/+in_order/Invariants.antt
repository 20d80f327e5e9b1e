use Rattle.std.proofs.Common.{length}
use Rattle.formula_parse.proofs.making.+in_order.Given as goal

abbrev pub decreases-in_order : goal.decreases-in_order
decreases-in_order l = length l.items.now
