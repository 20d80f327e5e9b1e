use Rattle.leaf_names.proofs.OpenedLaws.{names_naming}
use Rattle.leaf_names.proofs.laws.names_are_naming.Goals as goal

pub returns : goal.returns
returns c = names_naming c.has_database_facts.ensures c.symbols_are_few.ensures
