use Rattle.model_laws.proofs.StandFacts.{variables_stand}
use Rattle.model_laws.proofs.frames.mandatory_variables_stand.Goals as goal

pub returns : goal.returns
returns c = variables_stand
