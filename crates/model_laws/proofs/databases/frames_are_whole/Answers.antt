use Rattle.model_laws.proofs.DatabaseFacts.{frames_are}
use Rattle.model_laws.proofs.Checked.{no_statement_fault}
use Rattle.model_laws.proofs.databases.frames_are_whole.Goals as goal

pub returns : goal.returns
returns c = λ kinds text db is ok. frames_are kinds text db is (no_statement_fault text ok)
