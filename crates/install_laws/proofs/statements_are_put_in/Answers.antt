use Rattle.install_laws.proofs.StatementsLaw.{statements_are_put_in}
use Rattle.install_laws.proofs.statements_are_put_in.Goals as goal

pub returns : goal.returns
returns c = statements_are_put_in
