use Rattle.install_laws.proofs.ProofsLaw.{theorems_stay, proofs_stay, old_proofs_end_alike}
use Rattle.install_laws.proofs.old_proofs_end_alike.Goals as goal

pub returns : goal.returns
returns c = record { theorems = theorems_stay; words = proofs_stay; ends = old_proofs_end_alike }
