use Rattle.std.proofs.Common.{◌∙◌}
use Rattle.mm_frames.proofs.Queries.{proof-is}
use Rattle.mm_frames.proofs.frames.Frames.proof.Goals as goal

pub returns : goal.returns
returns c = λ text h. c.proof_at.ensures ∙ proof-is c.args.self.now c.args.label text h
