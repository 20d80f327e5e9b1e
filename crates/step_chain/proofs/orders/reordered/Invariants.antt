use Rattle.std.proofs.Common.{◌≡◌, take}
use Rattle.step_chain.specs.Ordered.{reordered}
use Rattle.step_chain.proofs.orders.reordered.Given as goal

abbrev pub invariant-loop-number : goal.invariant-loop-number
invariant-loop-number l = l.ordered.items ≡ reordered l.places (take l.number-index l.order)
