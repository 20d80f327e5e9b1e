use Rattle.proof_laws.proofs.AcceptedLaw.{ends_with_theorem}
use Rattle.proof_laws.proofs.accepted_ends_with_theorem.Goals as goal

pub returns : goal.returns
returns c = ends_with_theorem
