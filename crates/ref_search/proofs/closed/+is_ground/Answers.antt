use Rattle.std.proofs.Common.{sym, ◌∙◌}
use Rattle.ref_search.proofs.GroundLaws.{ground_var, ground_work, ground_fresh, part_open, parts_ground}
use Rattle.ref_search.proofs.closed.+is_ground.Goals as goal

pub returns-then-not-is_ground : goal.returns-then-not-is_ground
returns-then-not-is_ground t c =
    part_open c.args.tree.now c.in-Node.field-0 c.in-Node.field-1 c.in-Node.children c.as_slice-child-items.result.now c.in-Node.is c.as_slice-child-items.ensures c.loop-child.child-index
    c.child-item.result c.loop-child-test.true c.child-item.is (sym c.if-not-is_ground.true ∙ c.is_ground.ensures)

pub returns-in-Var : goal.returns-in-Var
returns-in-Var t c = ground_var c.args.tree.now c.in-Var.field-0 c.in-Var.field-1 c.in-Var.is

pub returns-in-Work : goal.returns-in-Work
returns-in-Work t c = ground_work c.args.tree.now c.in-Work.field-0 c.in-Work.field-1 c.in-Work.is

pub returns-in-Fresh : goal.returns-in-Fresh
returns-in-Fresh t c = ground_fresh c.args.tree.now c.in-Fresh.field-0 c.in-Fresh.field-1 c.in-Fresh.is

pub returns-after-loop-child : goal.returns-after-loop-child
returns-after-loop-child t c =
    parts_ground c.args.tree.now c.in-Node.field-0 c.in-Node.field-1 c.in-Node.children c.as_slice-child-items.result.now c.in-Node.is c.as_slice-child-items.ensures c.loop-child.child-index
    c.loop-child-test.false c.loop-child.invariant
