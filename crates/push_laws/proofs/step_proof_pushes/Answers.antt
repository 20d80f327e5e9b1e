use Rattle.push_laws.proofs.StepLaw.{step_proof_pushes, step_proof_has_arities}
use Rattle.push_laws.proofs.step_proof_pushes.Goals as goal

pub returns : goal.returns
returns c = record { pushes = step_proof_pushes; arities = step_proof_has_arities }
