use Rattle.std.proofs.Common.{◌∙◌, arith}
use Rattle.std.proofs.lemmas.List.{length_push}
use Rattle.term_arena.proofs.WalkLaws.{read_push_zero}
use Rattle.term_arena.proofs.walk.grow.Goals as goal

pub loop-stamps-preserved : goal.loop-stamps-preserved
loop-stamps-preserved c = record {
  same = λ i. rw c.in_ok-push.ensures.items (read_push_zero c.loop-stamps.stamps.items i ∙ c.loop-stamps.invariant.same i);
  longer = omega (arith, c.loop-stamps.invariant.longer, c.in_ok-push.ensures.items, length_push c.loop-stamps.stamps.items 0);
  limit = omega (arith, c.loop-stamps.invariant.limit, c.in_ok-push.ensures.len);
}
