use Rattle.sheet_print.proofs.Pieces.{step_noted, comment_passed}
use Rattle.sheet_print.proofs.text.step_names.Goals as goal
use Rattle.sheet_print.proofs.text.step_names.Goals.{in-Step+in_ok-push-in-Step, in-Comment}

pub loop-item-preserved : goal.loop-item-preserved
loop-item-preserved c = elim c.match-item.branch [
  | in-Comment w ↦ rw w.names-is
      (comment_passed c.loop-item.names.items c.args.items.now c.loop-item.item-index c.item-item.result _ c.loop-item-test.true c.item-item.is
      w.in-Comment.is c.loop-item.invariant)
  | in-Step+in_ok-push-in-Step w ↦ rw w.names-is
      (step_noted c.loop-item.names.items _ _ c.args.items.now c.loop-item.item-index c.item-item.result _ c.loop-item-test.true c.item-item.is
      w.in-Step.is w.as_slice.ensures w.in_ok-push-in-Step.ensures.items c.loop-item.invariant)
]
