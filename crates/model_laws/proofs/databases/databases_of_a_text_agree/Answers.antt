use Rattle.model_laws.proofs.OneDatabase.{one_database}
use Rattle.model_laws.proofs.databases.databases_of_a_text_agree.Goals as goal

pub returns : goal.returns
returns c = one_database
