use Rattle.push_laws.proofs.TreeLaw.{tree_proof_pushes}
use Rattle.push_laws.proofs.tree_proof_pushes.Goals as goal

pub returns : goal.returns
returns c = tree_proof_pushes
