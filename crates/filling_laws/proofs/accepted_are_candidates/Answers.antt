use Rattle.filling_laws.proofs.Candidates.{accepted_are}
use Rattle.filling_laws.proofs.accepted_are_candidates.Goals as goal

pub returns : goal.returns
returns c = accepted_are c.has_database_facts.ensures
