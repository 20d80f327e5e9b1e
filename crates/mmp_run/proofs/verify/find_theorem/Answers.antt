use Rattle.std.proofs.Common.{◌∙◌, sym, ap}
use Rattle.mm_frames.specs.Contents.{Contents}
use Rattle.mm_model.specs.Names.{label_named}
use Rattle.mm_model.specs.Statements.{statements}
use Rattle.mmp_run.proofs.Theorems.{theorem_of_name}
use Rattle.mmp_run.proofs.verify.find_theorem.Goals as goal

pub returns-else-frame-clause-some : goal.returns-else-frame-clause-some
returns-else-frame-clause-some c = λ text contents.
    let named = rw c.in-Some.is at c.label.ensures in
    let frame_is = rw c.in-Some-frame.is at c.frame.ensures text contents in
    theorem_of_name (statements text) c.args.name.now c.in-Some.label c.in-Some-frame.frame.now
    (sym (named ∙ ap (λ (d : Contents). label_named d.labels c.args.name.now) contents)) (sym frame_is) c.if-frame.false
