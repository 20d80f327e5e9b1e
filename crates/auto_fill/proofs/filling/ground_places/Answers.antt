use Rattle.std.proofs.Common.{arith}
use Rattle.auto_fill.proofs.AnswerLaws.{one_before, none_before}
use Rattle.auto_fill.proofs.filling.ground_places.Goals as goal
use Rattle.auto_fill.proofs.filling.ground_places.Goals.{then-is_ground+in_ok-push, else-is_ground}

pub loop-k-preserved : goal.loop-k-preserved
loop-k-preserved c = elim c.if-is_ground.branch [
  | then-is_ground+in_ok-push w ↦ rw w.places-is (
      one_before c.args.trees.now c.loop-k.k c.index-trees-k.result (omega (arith, c.requires, c.loop-k-test.true)) c.index-trees-k.is c.loop-k.places.items _ c.loop-k.invariant
      c.is_ground.result c.is_ground.ensures w.if-is_ground.true w.in_ok-push.ensures.items)
  | else-is_ground w ↦ rw w.places-is (
      none_before c.args.trees.now c.loop-k.k c.index-trees-k.result (omega (arith, c.requires, c.loop-k-test.true)) c.index-trees-k.is c.loop-k.places.items c.loop-k.places.items c.loop-k.invariant
      c.is_ground.result c.is_ground.ensures w.if-is_ground.false)
]
