use Rattle.std.proofs.Common.{◌∙◌}
use Rattle.mm_frames.proofs.Queries.{frame-is}
use Rattle.mm_frames.proofs.frames.Frames.frame.Goals as goal

pub returns : goal.returns
returns c = λ text h. c.frame_at.ensures ∙ frame-is c.args.self.now c.args.label text h
