use Rattle.install_laws.proofs.KeptLaw.{old_proofs_stay_accepted}
use Rattle.install_laws.proofs.old_proofs_stay_accepted.Goals as goal

pub returns : goal.returns
returns c = old_proofs_stay_accepted
