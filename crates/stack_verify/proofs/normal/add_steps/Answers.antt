use Rattle.std.proofs.Common.{arith}
use Rattle.stack_verify.specs.Theorems.{labels_of_hyps}
use Rattle.stack_verify.proofs.LabelSteps.{one_word}
use Rattle.stack_verify.proofs.normal.add_steps.Goals as goal

pub loop-span-preserved : goal.loop-span-preserved
loop-span-preserved c = record {
  count = omega (arith, c.in_ok-step.ensures.grown);
  so_far =
      λ hyps is. one_word
      (labels_of_hyps
      hyps) c.loop-span.others c.step_of.new.others c.args.text.now c.args.spans.now c.loop-span.span-index _ c.in_ok-step.step c.loop-span.steps.items c.push.new.self.items
      c.loop-span-test.true (c.in_ok-step.ensures.others hyps is) (c.in_ok-step.ensures.step hyps is) c.in_ok-push.ensures.items (c.loop-span.invariant.so_far hyps is);
}
