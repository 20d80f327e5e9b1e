use Rattle.std.proofs.Common.{length, sym, ap, ◌∙◌}
use Rattle.std.proofs.lemmas.Bool.{OnFalse_at}
use Rattle.ref_search.proofs.ShapeLaws.{never_node, never_label, never_count, never_part}
use Rattle.ref_search.proofs.shapes.+may_become.Goals as goal

pub returns-in_default-tree : goal.returns-in_default-tree
returns-in_default-tree t c = never_node c.args.pattern.now c.args.tree.now c.in-Node.label c.in-Node.field-1 c.in-Node.children c.in-Node.is c.in_default-tree.not-Node

pub returns-then-ne : goal.returns-then-ne
returns-then-ne t c =
    never_label c.args.pattern.now c.args.tree.now c.in-Node.label c.in-Node.field-1 c.in-Node.children c.in-Node.is c.in-Node-tree.other_label c.in-Node-tree.field-1 c.in-Node-tree.others
    c.in-Node-tree.is (sym c.if-ne.true ∙ c.ne.ensures)

pub returns-then-parts-other_parts : goal.returns-then-parts-other_parts
returns-then-parts-other_parts t c =
    never_count c.args.pattern.now c.args.tree.now c.in-Node.label c.in-Node.field-1 c.in-Node.children c.in-Node.is c.in-Node-tree.other_label c.in-Node-tree.field-1 c.in-Node-tree.others
    c.in-Node-tree.is (λ e. c.if-parts-other_parts.true (ap length c.as_slice-parts.ensures ∙ e ∙ sym (ap length c.as_slice-other_parts.ensures)))

pub returns-then-not-may_become : goal.returns-then-not-may_become
returns-then-not-may_become t c =
    never_part c.args.pattern.now c.args.tree.now c.in-Node.label c.in-Node.field-1 c.as_slice-parts.result.now (rw c.as_slice-parts.ensures c.in-Node.is) c.in-Node-tree.other_label
    c.in-Node-tree.field-1 c.as_slice-other_parts.result.now (rw c.as_slice-other_parts.ensures c.in-Node-tree.is) c.loop-i.i c.index-parts-i.result c.index-other_parts-i.result
    c.loop-i-test.true c.if-parts-other_parts.false c.index-parts-i.is c.index-other_parts-i.is (OnFalse_at c.if-not-may_become.true c.may_become.ensures)
