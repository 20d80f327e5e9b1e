use Rattle.std.proofs.Common.{length, ap, ◌∙◌, sym, refl}
use Rattle.mm_model.specs.Rows.{slot_order}
use Rattle.formula_parse.proofs.Arranged.{pick_in_order}
use Rattle.formula_parse.proofs.making.node.Goals as goal

pub returns-then-is_in_order : goal.returns-then-is_in_order
returns-then-is_in_order c =
    let row = c.args.row.now in
    let order = c.is_in_order.ensures.order c.if-is_in_order.true in
    record {
      children = c.args.trees;
      tree_is = refl;
      count = ap length (sym c.as_slice.ensures) ∙ c.is_in_order.ensures.count c.if-is_in_order.true;
      picks = pick_in_order c.args.trees (slot_order row.items) c.requires.count order;
    }
