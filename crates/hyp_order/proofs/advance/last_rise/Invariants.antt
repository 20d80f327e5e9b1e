use Rattle.std.proofs.Common.{◌-◌, ◌≤◌, length, drop}
use Rattle.hyp_order.specs.Falls.{Falls}
use Rattle.hyp_order.proofs.advance.last_rise.Given as goal

abbrev pub invariant-loop-i : goal.invariant-loop-i
invariant-loop-i l = (l.i ≤ length l.order) × Falls (drop (l.i - 1) l.order)

abbrev pub decreases-loop-i : goal.decreases-loop-i
decreases-loop-i l = l.i
