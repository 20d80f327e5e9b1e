use Rattle.filling_laws.proofs.Counts.{fronts_are}
use Rattle.filling_laws.proofs.fronts_are_counted.Goals as goal

pub returns : goal.returns
returns c = fronts_are c.accepted_are_candidates.ensures c.chain_is_counted.ensures
