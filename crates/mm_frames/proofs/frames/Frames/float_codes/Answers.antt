use Rattle.std.proofs.Common.{◌∙◌, ap, take}
use Rattle.mm_model.specs.Statements.{statements}
use Rattle.mm_model.specs.Frames.{symbols}
use Rattle.mm_frames.specs.Contents.{Contents}
use Rattle.mm_frames.proofs.Queries.{taken}
use Rattle.mm_frames.proofs.frames.Frames.float_codes.Goals as goal

pub returns : goal.returns
returns c = λ text h.
    c.float_codes.ensures (symbols (statements text)) (take c.args.place (statements text))
    (taken (symbols (statements text)) (statements text) c.as_slice.result.now c.args.place (c.as_slice.ensures ∙ ap (λ (d : Contents). d.entries) (c.self.view_is ∙ h)))
