use Rattle.std.proofs.Common.{ap, ◌∙◌}
use Rattle.std.proofs.lemmas.List.{take_all}
use Rattle.mm_model.specs.Sizes as spec
use Rattle.mm_model.proofs.SizeLaws.{nodes-Node}
use Rattle.formula_parse.proofs.sizes.+nodes.Goals as goal

pub returns-after-loop-child : goal.returns-after-loop-child
returns-after-loop-child t c =
    let size = ap spec.nodes c.in-Node.is ∙ nodes-Node c.in-Node.field-0 c.in-Node.field-1 c.in-Node.children in
    let all = take_all c.loop-child.child-index c.as_slice-child-items.result.now c.loop-child-test.false in
    cc
