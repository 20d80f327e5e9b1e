use Rattle.std.proofs.Common.{◌==◌, refl, sym, ◌∙◌}
use Rattle.mm_base.specs.declared.tree.Tree.TheVariants.{Var, Work, Fresh, Node}
use Rattle.mm_base.specs.SameTrees.{same_code}
use Rattle.mm_base.proofs.SameTrees.{not_var, not_work, not_fresh, not_node, var_told, work_told, fresh_told, other_kind, and_then, and_else}
use Rattle.mm_base.proofs.SameTrees.{other_label, other_code, other_length, other_part, all_parts}
use Rattle.mm_base.proofs.same.+is_same.Goals as goal

pub returns-then-eq : goal.returns-then-eq
returns-then-eq t c =
    var_told c.args.one.now c.args.other.now c.in-Var.symbol c.in-Var-other.other_symbol c.in-Var.code c.in-Var-other.other_code c.eq-then-eq.result c.in-Var.is c.in-Var-other.is
    (and_then (c.in-Var.symbol.0 == c.in-Var-other.other_symbol.0) (same_code c.in-Var.code c.in-Var-other.other_code) c.eq-then-eq.result (sym c.eq.ensures ∙ c.if-eq.true) c.eq-then-eq.ensures)

pub returns-else-eq : goal.returns-else-eq
returns-else-eq t c =
    var_told c.args.one.now c.args.other.now c.in-Var.symbol c.in-Var-other.other_symbol c.in-Var.code c.in-Var-other.other_code c.eq.result c.in-Var.is c.in-Var-other.is
    (and_else (c.in-Var.symbol.0 == c.in-Var-other.other_symbol.0) (same_code c.in-Var.code c.in-Var-other.other_code) c.eq.result c.eq.ensures c.if-eq.false)

pub returns-in_default : goal.returns-in_default
returns-in_default t c = other_kind c.args.one.now c.args.other.now (Var c.in-Var.symbol c.in-Var.code) c.in-Var.is (not_var c.in-Var.symbol c.in-Var.code c.args.other.now c.in_default.not-Var)

pub returns-then-eq-2 : goal.returns-then-eq-2
returns-then-eq-2 t c =
    work_told c.args.one.now c.args.other.now c.in-Work.code c.in-Work-other.other_code c.in-Work.number c.in-Work-other.other_number
    (c.in-Work.number == c.in-Work-other.other_number) c.in-Work.is c.in-Work-other.is
    (and_then (same_code c.in-Work.code c.in-Work-other.other_code) (c.in-Work.number == c.in-Work-other.other_number)
    (c.in-Work.number == c.in-Work-other.other_number) (sym c.eq-in-Work-other.ensures ∙ c.if-eq-2.true) refl)

pub returns-else-eq-2 : goal.returns-else-eq-2
returns-else-eq-2 t c =
    work_told c.args.one.now c.args.other.now c.in-Work.code c.in-Work-other.other_code c.in-Work.number c.in-Work-other.other_number c.eq-in-Work-other.result c.in-Work.is c.in-Work-other.is
    (and_else (same_code c.in-Work.code c.in-Work-other.other_code) (c.in-Work.number == c.in-Work-other.other_number) c.eq-in-Work-other.result c.eq-in-Work-other.ensures c.if-eq-2.false)

pub returns-in_default-other : goal.returns-in_default-other
returns-in_default-other t c =
    other_kind c.args.one.now c.args.other.now (Work c.in-Work.code c.in-Work.number) c.in-Work.is
    (not_work c.in-Work.code c.in-Work.number c.args.other.now c.in_default-other.not-Work)

pub returns-then-eq-3 : goal.returns-then-eq-3
returns-then-eq-3 t c =
    fresh_told c.args.one.now c.args.other.now c.in-Fresh.code c.in-Fresh-other.other_code c.in-Fresh.number c.in-Fresh-other.other_number
    (c.in-Fresh.number == c.in-Fresh-other.other_number) c.in-Fresh.is c.in-Fresh-other.is
    (and_then (same_code c.in-Fresh.code c.in-Fresh-other.other_code) (c.in-Fresh.number == c.in-Fresh-other.other_number)
    (c.in-Fresh.number == c.in-Fresh-other.other_number) (sym c.eq-in-Fresh-other.ensures ∙ c.if-eq-3.true) refl)

pub returns-else-eq-3 : goal.returns-else-eq-3
returns-else-eq-3 t c =
    fresh_told c.args.one.now c.args.other.now c.in-Fresh.code c.in-Fresh-other.other_code c.in-Fresh.number c.in-Fresh-other.other_number c.eq-in-Fresh-other.result c.in-Fresh.is c.in-Fresh-other.is
    (and_else (same_code c.in-Fresh.code c.in-Fresh-other.other_code) (c.in-Fresh.number == c.in-Fresh-other.other_number) c.eq-in-Fresh-other.result c.eq-in-Fresh-other.ensures c.if-eq-3.false)

pub returns-in_default-other-2 : goal.returns-in_default-other-2
returns-in_default-other-2 t c =
    other_kind c.args.one.now c.args.other.now (Fresh c.in-Fresh.code c.in-Fresh.number) c.in-Fresh.is
    (not_fresh c.in-Fresh.code c.in-Fresh.number c.args.other.now c.in_default-other-2.not-Fresh)

pub returns-in_default-other-3 : goal.returns-in_default-other-3
returns-in_default-other-3 t c =
    other_kind c.args.one.now c.args.other.now (Node c.in-Node.label c.in-Node.code c.in-Node.children) c.in-Node.is
    (not_node c.in-Node.label c.in-Node.code c.in-Node.children c.args.other.now c.in_default-other-3.not-Node)

pub returns-then-ne : goal.returns-then-ne
returns-then-ne t c =
    other_label c.args.one.now c.args.other.now c.in-Node.label c.in-Node-other.other_label c.in-Node.code c.in-Node-other.other_code
    c.in-Node.children c.in-Node-other.others c.in-Node.is c.in-Node-other.is c.if-ne.ensures

pub returns-then-ne-2 : goal.returns-then-ne-2
returns-then-ne-2 t c =
    other_code c.args.one.now c.args.other.now c.in-Node.label c.in-Node-other.other_label c.in-Node.code c.in-Node-other.other_code
    c.in-Node.children c.in-Node-other.others c.in-Node.is c.in-Node-other.is c.if-ne-2.ensures

pub returns-then-parts-other_parts : goal.returns-then-parts-other_parts
returns-then-parts-other_parts t c =
    other_length c.args.one.now c.args.other.now c.in-Node.label c.in-Node-other.other_label c.in-Node.code c.in-Node-other.other_code
    c.in-Node.children c.in-Node-other.others c.in-Node.is c.in-Node-other.is c.as_slice-parts.result.now c.as_slice-other_parts.result.now
    c.as_slice-parts.ensures c.as_slice-other_parts.ensures c.if-parts-other_parts.true

pub returns-then-not-is_same : goal.returns-then-not-is_same
returns-then-not-is_same t c =
    other_part c.args.one.now c.args.other.now c.in-Node.label c.in-Node-other.other_label c.in-Node.code c.in-Node-other.other_code
    c.in-Node.children c.in-Node-other.others c.in-Node.is c.in-Node-other.is c.as_slice-parts.result.now c.as_slice-other_parts.result.now
    c.as_slice-parts.ensures c.as_slice-other_parts.ensures
    c.loop-i.i c.loop-i.invariant c.if-parts-other_parts.false c.loop-i-test.true c.index-parts-i.result c.index-other_parts-i.result c.is_same.result c.index-parts-i.is c.index-other_parts-i.is
    c.is_same.ensures c.if-not-is_same.true

pub returns-after-loop-i : goal.returns-after-loop-i
returns-after-loop-i t c =
    all_parts c.args.one.now c.args.other.now c.in-Node.label c.in-Node-other.other_label c.in-Node.code c.in-Node-other.other_code c.in-Node.children
    c.in-Node-other.others c.in-Node.is c.in-Node-other.is c.as_slice-parts.result.now c.as_slice-other_parts.result.now c.as_slice-parts.ensures
    c.as_slice-other_parts.ensures
    c.loop-i.i c.loop-i.invariant c.if-parts-other_parts.false c.loop-i-test.false c.if-ne.ensures c.if-ne-2.ensures
