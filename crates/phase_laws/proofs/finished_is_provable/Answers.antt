use Rattle.phase_laws.proofs.Ends.{finished_is_provable}
use Rattle.phase_laws.proofs.finished_is_provable.Goals as goal

pub returns : goal.returns
returns c = finished_is_provable
