use Rattle.leaf_names.proofs.OpenedLaws.{symbols_bounded, works_bounded}
use Rattle.leaf_names.proofs.laws.numbers_suffice.Goals as goal

pub returns-clause-symbols : goal.returns-clause-symbols
returns-clause-symbols c = symbols_bounded

pub returns-clause-works : goal.returns-clause-works
returns-clause-works c = works_bounded c.has_database_facts.ensures
