use Rattle.again_laws.proofs.WholeAssertions.{whole}
use Rattle.again_laws.proofs.assertions_are_whole.Goals as goal

pub returns : goal.returns
returns c = whole c.has_database_facts.ensures c.frames_have_own_expressions.ensures c.mandatory_variables_stand.ensures
