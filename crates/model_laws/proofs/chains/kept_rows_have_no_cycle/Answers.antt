use Rattle.model_laws.proofs.PathLaws.{kept_have_no_cycle}
use Rattle.model_laws.proofs.chains.kept_rows_have_no_cycle.Goals as goal

pub returns : goal.returns
returns c = kept_have_no_cycle
