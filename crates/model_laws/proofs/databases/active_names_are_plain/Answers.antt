use Rattle.model_laws.proofs.NameWords.{active_plain}
use Rattle.model_laws.proofs.databases.active_names_are_plain.Goals as goal

pub returns : goal.returns
returns c = active_plain
