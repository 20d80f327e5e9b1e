use Rattle.again_laws.proofs.Unnumbered.{binds_same}
use Rattle.again_laws.proofs.binds_without_lines.Goals as goal

pub returns : goal.returns
returns c = binds_same
