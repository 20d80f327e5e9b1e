use Rattle.step_chain.specs.Formulas.{begun}
use Rattle.step_chain.proofs.AddingLaws.{grown_more}
use Rattle.step_chain.proofs.FormulaLaws.{step_more, blanks_more}
use Rattle.step_chain.proofs.formulas.add_all_unknowns.Goals as goal

pub loop-step-preserved : goal.loop-step-preserved
loop-step-preserved c =
    let start = begun c.args.arena.now c.args.works.now in
    let now = begun c.loop-step.arena c.loop-step.works in
    record {
      is_begun = step_more c.args.logic start c.args.steps.now c.loop-step.step-index c.step-item.result now (begun c.add_unknowns.new.arena c.add_unknowns.new.works)
          c.loop-step-test.true c.step-item.is c.loop-step.invariant.is_begun c.in_ok-node.ensures.begun;
      nodes_are = blanks_more c.args.logic start c.args.steps.now c.loop-step.step-index c.step-item.result now c.loop-step.nodes.items c.push.new.self.items c.in_ok-node.node
          c.loop-step-test.true c.step-item.is c.loop-step.invariant.is_begun c.loop-step.invariant.nodes_are c.in_ok-node.ensures.node c.in_ok-push.ensures.items;
      grown = grown_more c.args.arena.now c.loop-step.arena c.add_unknowns.new.arena c.loop-step.invariant.grown c.in_ok-node.ensures.grows;
    }
