use Rattle.model_laws.proofs.SymbolFacts.{have_symbols}
use Rattle.model_laws.proofs.databases.databases_have_symbols.Goals as goal

pub returns : goal.returns
returns c = have_symbols
