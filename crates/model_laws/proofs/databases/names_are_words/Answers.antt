use Rattle.model_laws.proofs.NameWords.{names_words}
use Rattle.model_laws.proofs.databases.names_are_words.Goals as goal

pub returns : goal.returns
returns c = names_words
