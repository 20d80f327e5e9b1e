use Rattle.install_laws.proofs.DatabaseLaw.{frames_are_moved}
use Rattle.install_laws.proofs.frames_are_moved.Goals as goal

pub returns : goal.returns
returns c = frames_are_moved
