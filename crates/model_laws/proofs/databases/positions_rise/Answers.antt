use Rattle.model_laws.proofs.DatabaseFacts.{places_are, places_rise}
use Rattle.model_laws.proofs.Checked.{no_statement_fault}
use Rattle.model_laws.proofs.databases.positions_rise.Goals as goal

pub returns : goal.returns
returns c = λ kinds text db is ok. (places_are kinds text db is (no_statement_fault text ok), places_rise kinds text db is (no_statement_fault text ok))
