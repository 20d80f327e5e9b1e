use Rattle.model_laws.proofs.DatabaseFacts.{database_labels}
use Rattle.model_laws.proofs.Checked.{no_statement_fault}
use Rattle.model_laws.proofs.databases.labels_are_distinct.Goals as goal

pub returns : goal.returns
returns c = λ kinds text db is ok. database_labels kinds text db is (no_statement_fault text ok)
