use Rattle.install_laws.proofs.FrameLaw.{frames_stay_before, frames_stay_behind}
use Rattle.install_laws.proofs.frames_stay.Goals as goal

pub returns : goal.returns
returns c = record { before = frames_stay_before; behind = frames_stay_behind }
