use Rattle.std.proofs.Common.{◌∙◌, ap, sym, refl}
use Rattle.sheet_text.specs.Layout.{step_of_item}
use Rattle.ref_select.proofs.StepLists.{step_more, comment_more}
use Rattle.ref_select.proofs.asked.steps_of.Goals as goal
use Rattle.ref_select.proofs.asked.steps_of.Goals.{in-Step+in_ok-push, in_default}

pub loop-item-preserved : goal.loop-item-preserved
loop-item-preserved c = elim c.match-item.branch [
  | in-Step+in_ok-push w ↦ rw w.steps-is (step_more c.args.items.now c.loop-item.item-index c.item-item.result c.loop-item.steps.items w.push.new.self.items _ w.in-Step.step c.loop-item-test.true
      (sym c.item-item.is ∙ w.in-Step.is) refl c.loop-item.invariant w.in_ok-push.ensures.items)
  | in_default w ↦ rw w.steps-is
      (comment_more c.args.items.now c.loop-item.item-index c.item-item.result c.loop-item.steps.items c.loop-item-test.true
      (ap step_of_item (sym c.item-item.is ∙ w.in_default.is)) c.loop-item.invariant)
]
