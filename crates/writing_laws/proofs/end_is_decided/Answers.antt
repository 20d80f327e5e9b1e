use Rattle.writing_laws.proofs.Opened.{has_end}
use Rattle.writing_laws.proofs.end_is_decided.Goals as goal

pub returns : goal.returns
returns c = has_end
