use Rattle.std.proofs.Common.{◌≡◌, ◌<◌, ℕ, List, length, Some}
use Rattle.std.specs.List.{slice_get}
use Rattle.chain_laws.specs.Layout.{CannotJoin}
use Rattle.step_chain.specs.Joined.{pairs_of}
use Rattle.step_chain.specs.Ordered.{may_reorder, reordered, id_pairs, tried}
use Rattle.step_chain.proofs.orders.first_fit.Given as goal

abbrev pub invariant-loop : goal.invariant-loop
invariant-loop l = record {
  same : l.arena ≡ l.fn.arena;
  at : slice_get (tried (may_reorder l.places (length l.hyps)) (length l.places)) l.counter ≡ Some l.order;
  before : (j : ℕ) (o : List ℕ) → j < l.counter → slice_get (tried (may_reorder l.places (length l.hyps)) (length l.places)) j ≡ Some o
      → CannotJoin l.fn.arena.nodes l.fn.arena.links (pairs_of (id_pairs l.formulas (reordered l.places o) l.hyps));
}
