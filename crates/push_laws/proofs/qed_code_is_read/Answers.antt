use Rattle.push_laws.proofs.CodeLaw.{qed_code_is_read}
use Rattle.push_laws.proofs.qed_code_is_read.Goals as goal

pub returns : goal.returns
returns c = qed_code_is_read
