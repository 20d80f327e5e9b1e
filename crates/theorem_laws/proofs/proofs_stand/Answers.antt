use Rattle.theorem_laws.proofs.ProofPlaces.{proofs_stand}
use Rattle.theorem_laws.proofs.proofs_stand.Goals as goal

pub returns : goal.returns
returns c = proofs_stand
