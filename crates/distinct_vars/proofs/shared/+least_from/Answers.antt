use Rattle.std.proofs.Common.{sym, ap, ◌∙◌, fold}
use Rattle.solve_model.specs.Trees.{variables}
use Rattle.solve_model.proofs.TreeLaws.{variables-Var, variables-Work, variables-Fresh, variables-Node}
use Rattle.distinct_vars.specs.Shared.{lesser_from}
use Rattle.distinct_vars.proofs.VariableLaws.{step_more, all_trees}
use Rattle.distinct_vars.proofs.shared.+least_from.Goals as goal

pub returns-in-Var : goal.returns-in-Var
returns-in-Var t c = c.lesser.ensures ∙ ap (fold (lesser_from c.args.low) c.args.best) (sym (ap variables c.in-Var.is ∙ variables-Var c.in-Var.symbol c.in-Var.field-1))

pub returns-in-Work : goal.returns-in-Work
returns-in-Work t c = ap (fold (lesser_from c.args.low) c.args.best) (sym (ap variables c.in-Work.is ∙ variables-Work c.in-Work.field-0 c.in-Work.field-1))

pub returns-in-Fresh : goal.returns-in-Fresh
returns-in-Fresh t c = ap (fold (lesser_from c.args.low) c.args.best) (sym (ap variables c.in-Fresh.is ∙ variables-Fresh c.in-Fresh.field-0 c.in-Fresh.field-1))

pub returns-after-loop-child : goal.returns-after-loop-child
returns-after-loop-child t c =
    all_trees (lesser_from c.args.low) c.args.best c.in-Node.children c.as_slice-child-items.result.now (variables c.args.tree.now) c.loop-child.child-index c.loop-child.least
    c.as_slice-child-items.ensures (ap variables c.in-Node.is ∙ variables-Node c.in-Node.field-0 c.in-Node.field-1 c.in-Node.children) c.loop-child-test.false c.loop-child.invariant

pub loop-child-preserved : goal.loop-child-preserved
loop-child-preserved t c =
    step_more (lesser_from c.args.low) c.args.best c.as_slice-child-items.result.now c.loop-child.child-index c.child-item.result c.loop-child.least c.least_from-least.result
    c.loop-child-test.true c.child-item.is c.loop-child.invariant c.least_from-least.ensures
