use Rattle.writing_laws.proofs.FewSymbols.{few_symbols}
use Rattle.writing_laws.proofs.symbols_are_few.Goals as goal

pub returns : goal.returns
returns c = few_symbols
