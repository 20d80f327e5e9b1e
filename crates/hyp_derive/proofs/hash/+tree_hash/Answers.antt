use Rattle.std.proofs.Common.{ap, ◌∙◌}
use Rattle.hyp_derive.specs.Hashing.{mix}
use Rattle.hyp_derive.proofs.HashLaws.{hash-Var, hash-Work, hash-Fresh, all_children}
use Rattle.hyp_derive.proofs.hash.+tree_hash.Goals as goal

pub returns-in-Var : goal.returns-in-Var
returns-in-Var t c = c.mixed-in-Var.ensures ∙ ap (λ h. mix h c.in-Var.code.0.0) c.mixed.ensures ∙ hash-Var c.args.tree.now c.in-Var.symbol c.in-Var.code c.in-Var.is

pub returns-in-Work : goal.returns-in-Work
returns-in-Work t c = c.mixed-in-Work-2.ensures ∙ ap (λ h. mix h c.in-Work.code.0.0) c.mixed-in-Work.ensures ∙ hash-Work c.args.tree.now c.in-Work.code c.in-Work.number c.in-Work.is

pub returns-in-Fresh : goal.returns-in-Fresh
returns-in-Fresh t c = c.mixed-in-Fresh-2.ensures ∙ ap (λ h. mix h c.in-Fresh.code.0.0) c.mixed-in-Fresh.ensures ∙ hash-Fresh c.args.tree.now c.in-Fresh.code c.in-Fresh.number c.in-Fresh.is

pub returns-after-loop-child : goal.returns-after-loop-child
returns-after-loop-child t c =
    all_children c.args.tree.now c.in-Node.label c.in-Node.field-1 c.in-Node.children c.as_slice-child-items.result.now c.loop-child.child-index c.mixed-hash.result c.loop-child.hash c.in-Node.is
    c.as_slice-child-items.ensures c.mixed-hash.ensures c.loop-child-test.false c.loop-child.invariant
