use Rattle.model_laws.proofs.DatabaseFacts.{grammar}
use Rattle.model_laws.proofs.Checked.{no_statement_fault}
use Rattle.model_laws.proofs.databases.rows_are_a_grammar.Goals as goal

pub returns : goal.returns
returns c = λ kinds text db is ok. grammar kinds text db is (no_statement_fault text ok)
