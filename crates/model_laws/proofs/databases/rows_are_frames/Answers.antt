use Rattle.model_laws.proofs.DatabaseFacts.{rows_are_frames}
use Rattle.model_laws.proofs.Checked.{no_statement_fault}
use Rattle.model_laws.proofs.databases.rows_are_frames.Goals as goal

pub returns : goal.returns
returns c = λ kinds text db is ok. rows_are_frames kinds text db is (no_statement_fault text ok)
