use Rattle.std.proofs.Common.{ap, ◌∙◌, sym, map}
use Rattle.std.proofs.lemmas.List.{take_all, append-nil}
use Rattle.leaf_names.specs.Leaves.{row_leaves, fresh_leaves}
use Rattle.leaf_names.proofs.LeafLaws.{leaves-Var, leaves-Work, leaves-Node}
use Rattle.leaf_names.proofs.leaves.+write.Goals as goal

pub returns-in-Var : goal.returns-in-Var
returns-in-Var t c =
    let none = ap (fresh_leaves c.args.g.now) c.in-Var.is ∙ leaves-Var c.args.g.now c.in-Var.field-0 c.in-Var.field-1 in
    let nil = append-nil c.args.out.now.items in
    cc

pub returns-in-Work : goal.returns-in-Work
returns-in-Work t c =
    let none = ap (fresh_leaves c.args.g.now) c.in-Work.is ∙ leaves-Work c.args.g.now c.in-Work.field-0 c.in-Work.field-1 in
    let nil = append-nil c.args.out.now.items in
    cc

pub returns-after-loop-item : goal.returns-after-loop-item
returns-after-loop-item t c =
    let written = ap (fresh_leaves c.args.g.now) c.in-Node.is ∙ leaves-Node c.args.g.now c.in-Node.label c.in-Node.field-1 c.in-Node.children in
    let row = ap (row_leaves (map (fresh_leaves c.args.g.now) c.in-Node.children)) (sym c.in-Some.ensures) in
    let all = take_all c.loop-item.item-index c.as_slice-item-items.result.now c.loop-item-test.false in
    let kept = c.loop-item.invariant in
    let items = c.as_slice-item-items.ensures in
    cc

pub returns-in_default : goal.returns-in_default
returns-in_default t c =
    let written = ap (fresh_leaves c.args.g.now) c.in-Node.is ∙ leaves-Node c.args.g.now c.in-Node.label c.in-Node.field-1 c.in-Node.children in
    let row = ap (row_leaves (map (fresh_leaves c.args.g.now) c.in-Node.children)) (sym c.in_default.ensures) in
    let nil = append-nil c.args.out.now.items in
    cc
