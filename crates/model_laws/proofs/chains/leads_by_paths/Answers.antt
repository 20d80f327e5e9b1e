use Rattle.model_laws.proofs.PathLaws.{leads_by_paths}
use Rattle.model_laws.proofs.chains.leads_by_paths.Goals as goal

pub returns : goal.returns
returns c = leads_by_paths
