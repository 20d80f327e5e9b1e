use Rattle.step_chain.proofs.RowSizes.{constants_counted}
use Rattle.step_chain.proofs.laws.constants_are_counted.Goals as goal

pub returns : goal.returns
returns c = constants_counted c.has_database_facts.ensures
