use Rattle.proof_laws.proofs.NormalLaws.{normal_runs_labels}
use Rattle.proof_laws.proofs.normal_proof_runs_its_labels.Goals as goal

pub returns : goal.returns
returns c = normal_runs_labels
