use Rattle.std.proofs.Common.{◌+◌, ◌<◌, length, drop, get_or}
use Rattle.hyp_order.specs.Falls.{AtMost}
use Rattle.hyp_order.proofs.advance.last_above.Given as goal

abbrev pub invariant-loop-j : goal.invariant-loop-j
invariant-loop-j l = (l.place < l.j) × (l.j < length l.order) × AtMost (get_or l.order l.place 0) (drop (l.j + 1) l.order)

abbrev pub decreases-loop-j : goal.decreases-loop-j
decreases-loop-j l = l.j
