use Rattle.model_laws.proofs.FrameForms.{give_rows}
use Rattle.model_laws.proofs.frames.frames_give_rows.Goals as goal

pub returns : goal.returns
returns c = give_rows
