use Rattle.std.proofs.Common.{nat_eq, subst}
use Rattle.std.specs.HashMap.{get}
use Rattle.proof_tree.specs.Adding.{AddsStep, table_proofs}
use Rattle.proof_tree.specs.Given.{given_proof}
use Rattle.proof_tree.proofs.BuildLaws.{table_more}
use Rattle.proof_tree.proofs.building.add_steps.Goals as goal

pub loop-step-preserved : goal.loop-step-preserved
loop-step-preserved c =
    table_more
    (given_proof c.args.frames.now
    (get nat_eq
    c.args.floats.now)) c.args.steps.now c.loop-step.step-index c.step-item.result c.loop-step.graph c.add_step.new.graph c.loop-step.proofs.items c.push.new.self.items
    c.in_ok-proof.proof c.loop-step-test.true c.step-item.is c.loop-step.invariant
    (subst
    (λ ns. AddsStep c.loop-step.graph c.add_step.new.graph
    (given_proof c.args.frames.now (get nat_eq c.args.floats.now)
    (table_proofs c.loop-step.graph ns) c.step-item.result) c.in_ok-proof.proof) c.deref.ensures.value c.in_ok-proof.ensures)
    c.in_ok-push.ensures.items
