use Rattle.std.proofs.Common.{sym, ap, ◌∙◌}
use Rattle.solve_model.specs.Trees.{open_leaves}
use Rattle.solve_model.proofs.TreeLaws.{open_leaves-Var, open_leaves-Work, open_leaves-Fresh, open_leaves-Node}
use Rattle.step_chain.specs.Formulas.{begun, with_leaves}
use Rattle.step_chain.proofs.AddingLaws.{grown_more}
use Rattle.step_chain.proofs.FormulaLaws.{tree_more, all_trees, ok_leaves}
use Rattle.step_chain.proofs.formulas.+add_works.Goals as goal

pub returns-in-Var-clause-begun : goal.returns-in-Var-clause-begun
returns-in-Var-clause-begun t c = ap (with_leaves (begun c.args.arena.now c.args.works.now)) (sym (ap open_leaves c.in-Var.is ∙ open_leaves-Var c.in-Var.field-0 c.in-Var.field-1))

pub returns-in-Work-clause-begun : goal.returns-in-Work-clause-begun
returns-in-Work-clause-begun t c =
    ok_leaves c.add_work.result (begun c.args.arena.now c.args.works.now) (begun c.add_work.new.arena c.add_work.new.works) _ _
    (sym (ap open_leaves c.in-Work.is ∙ open_leaves-Work c.in-Work.code c.in-Work.number)) c.add_work.ensures.begun

pub returns-in-Fresh-clause-begun : goal.returns-in-Fresh-clause-begun
returns-in-Fresh-clause-begun t c = ap (with_leaves (begun c.args.arena.now c.args.works.now)) (sym (ap open_leaves c.in-Fresh.is ∙ open_leaves-Fresh c.in-Fresh.field-0 c.in-Fresh.field-1))

pub loop-child-preserved : goal.loop-child-preserved
loop-child-preserved t c = record {
  is_begun =
      tree_more (begun c.args.arena.now c.args.works.now) c.as_slice-child-items.result.now c.loop-child.child-index c.child-item.result
      (begun c.loop-child.arena c.loop-child.works) (begun c.add_works.new.arena c.add_works.new.works)
      c.loop-child-test.true c.child-item.is c.loop-child.invariant.is_begun c.in_ok-add_works-in-Node.ensures.begun;
  grown = grown_more c.args.arena.now c.loop-child.arena c.add_works.new.arena c.loop-child.invariant.grown c.in_ok-add_works-in-Node.ensures.grows;
}

pub returns-after-loop-child-clause-begun : goal.returns-after-loop-child-clause-begun
returns-after-loop-child-clause-begun t c =
    all_trees (begun c.args.arena.now c.args.works.now) c.in-Node.children c.as_slice-child-items.result.now (open_leaves c.args.tree.now) c.loop-child.child-index
    (begun c.loop-child.arena c.loop-child.works) c.as_slice-child-items.ensures (ap open_leaves c.in-Node.is ∙ open_leaves-Node c.in-Node.field-0 c.in-Node.field-1 c.in-Node.children)
    c.loop-child-test.false c.loop-child.invariant.is_begun
