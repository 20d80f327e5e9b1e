use Rattle.kept_laws.proofs.Installing.{new_proof_is_accepted}
use Rattle.kept_laws.proofs.new_proof_is_accepted.Goals as goal

pub returns : goal.returns
returns c = new_proof_is_accepted
