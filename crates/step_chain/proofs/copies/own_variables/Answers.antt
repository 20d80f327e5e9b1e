use Rattle.step_chain.proofs.CopyLaws.{variables_more}
use Rattle.step_chain.proofs.copies.own_variables.Goals as goal

pub loop-hyp-preserved : goal.loop-hyp-preserved
loop-hyp-preserved c =
    variables_more c.args.first c.loop-hyp.hyp-index c.args.hyps.now c.hyp-item.result c.loop-hyp.variables.items c.push_variable.new.variables.items
    c.hyp-item.is c.loop-hyp-test.true c.loop-hyp.invariant c.in_ok-push_variable.ensures
