use Rattle.push_laws.proofs.QedLaw.{qed_proof_is_accepted}
use Rattle.push_laws.proofs.qed_proof_is_accepted.Goals as goal

pub returns : goal.returns
returns c = qed_proof_is_accepted
