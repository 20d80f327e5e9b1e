use Rattle.chain_laws.proofs.Built.{most_general}
use Rattle.chain_laws.proofs.most_general_exists.Goals as goal

pub returns : goal.returns
returns c = λ db bound accepted ready asked fits. most_general db bound accepted ready asked fits
