use Rattle.phase_laws.proofs.Ends.{written_is_earlier}
use Rattle.phase_laws.proofs.written_is_earlier.Goals as goal

pub returns : goal.returns
returns c = written_is_earlier
