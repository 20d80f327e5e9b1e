use Rattle.phase_laws.proofs.Ends.{label_has_name}
use Rattle.phase_laws.proofs.label_has_name.Goals as goal

pub returns : goal.returns
returns c = label_has_name
