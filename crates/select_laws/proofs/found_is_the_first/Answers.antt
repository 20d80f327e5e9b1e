use Rattle.select_laws.proofs.FoundFirst.{found_is_first}
use Rattle.select_laws.proofs.found_is_the_first.Goals as goal

pub returns : goal.returns
returns c = found_is_first
