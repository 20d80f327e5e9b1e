use Rattle.model_laws.proofs.DatabaseFacts.{is_database}
use Rattle.model_laws.proofs.Checked.{no_statement_fault}
use Rattle.model_laws.proofs.databases.has_database_facts.Goals as goal

pub returns : goal.returns
returns c = λ kinds text db is ok. is_database kinds text db is (no_statement_fault text ok)
