use Rattle.std.proofs.Common.{◌≡◌, take}
use Rattle.step_chain.specs.Ordered.{id_pairs}
use Rattle.step_chain.proofs.orders.pairs_at.Given as goal

abbrev pub invariant-loop-k : goal.invariant-loop-k
invariant-loop-k l = l.pairs.items ≡ id_pairs l.formulas (take l.k l.places) (take l.k l.hyps)
