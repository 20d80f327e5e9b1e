use Rattle.std.proofs.Common.{ap, ◌∙◌, sym, map}
use Rattle.std.proofs.lemmas.List.{take_all, append-nil}
use Rattle.mm_model.specs.Texts as spec
use Rattle.mm_model.proofs.TextLaws.{text-Fresh, text-Node}
use Rattle.formula_parse.proofs.texts.+write.Goals as goal

pub returns-in-Fresh : goal.returns-in-Fresh
returns-in-Fresh t c =
    let none = ap (spec.text c.args.g.now) c.in-Fresh.is ∙ text-Fresh c.args.g.now c.in-Fresh.field-0 c.in-Fresh.field-1 in
    let nil = append-nil c.args.out.now.items in
    cc

pub returns-after-loop-item : goal.returns-after-loop-item
returns-after-loop-item t c =
    let written = ap (spec.text c.args.g.now) c.in-Node.is ∙ text-Node c.args.g.now c.in-Node.label c.in-Node.field-1 c.in-Node.children in
    let row = ap (spec.row_text (map (spec.text c.args.g.now) c.in-Node.children)) (sym c.in-Some.ensures) in
    let all = take_all c.loop-item.item-index c.as_slice-item-items.result.now c.loop-item-test.false in
    let kept = c.loop-item.invariant in
    let items = c.as_slice-item-items.ensures in
    cc

pub returns-in_default : goal.returns-in_default
returns-in_default t c =
    let written = ap (spec.text c.args.g.now) c.in-Node.is ∙ text-Node c.args.g.now c.in-Node.label c.in-Node.field-1 c.in-Node.children in
    let row = ap (spec.row_text (map (spec.text c.args.g.now) c.in-Node.children)) (sym c.in_default.ensures) in
    let nil = append-nil c.args.out.now.items in
    cc
