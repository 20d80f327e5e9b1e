use Rattle.kept_laws.proofs.OldTheorems.{old_proofs_end_as_before}
use Rattle.kept_laws.proofs.old_proofs_end_as_before.Goals as goal

pub returns : goal.returns
returns c = old_proofs_end_as_before
