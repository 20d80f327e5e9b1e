use Rattle.std.proofs.Common.{sym, ap, ◌∙◌, fold}
use Rattle.solve_model.specs.Trees.{variables}
use Rattle.solve_model.proofs.TreeLaws.{variables-Var, variables-Work, variables-Fresh, variables-Node}
use Rattle.distinct_vars.specs.NeededPairs.{put_number}
use Rattle.distinct_vars.proofs.VariableLaws.{all_trees}
use Rattle.distinct_vars.proofs.crossings.+add_variables.Goals as goal

pub returns-in_ok-insert-in-Var : goal.returns-in_ok-insert-in-Var
returns-in_ok-insert-in-Var t c =
    c.in_ok-insert-in-Var.ensures.keys
    ∙ ap (fold put_number c.args.numbers.now.keys) (sym (ap variables c.in-Var.is ∙ variables-Var c.in-Var.symbol c.in-Var.field-1))

pub returns-in-Work : goal.returns-in-Work
returns-in-Work t c = ap (fold put_number c.args.numbers.now.keys) (sym (ap variables c.in-Work.is ∙ variables-Work c.in-Work.field-0 c.in-Work.field-1))

pub returns-in-Fresh : goal.returns-in-Fresh
returns-in-Fresh t c = ap (fold put_number c.args.numbers.now.keys) (sym (ap variables c.in-Fresh.is ∙ variables-Fresh c.in-Fresh.field-0 c.in-Fresh.field-1))

pub returns-after-loop-child : goal.returns-after-loop-child
returns-after-loop-child t c =
    all_trees put_number c.args.numbers.now.keys c.in-Node.children c.as_slice-child-items.result.now (variables c.args.tree.now) c.loop-child.child-index
    c.loop-child.numbers.keys c.as_slice-child-items.ensures (ap variables c.in-Node.is ∙ variables-Node c.in-Node.field-0 c.in-Node.field-1 c.in-Node.children)
    c.loop-child-test.false c.loop-child.invariant
