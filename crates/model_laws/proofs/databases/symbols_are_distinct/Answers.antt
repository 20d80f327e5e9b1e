use Rattle.model_laws.proofs.DatabaseFacts.{database_symbols}
use Rattle.model_laws.proofs.Checked.{no_statement_fault}
use Rattle.model_laws.proofs.databases.symbols_are_distinct.Goals as goal

pub returns : goal.returns
returns c = λ kinds text db is ok. database_symbols kinds text db is (no_statement_fault text ok)
