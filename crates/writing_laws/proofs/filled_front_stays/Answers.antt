use Rattle.writing_laws.proofs.LongSteps.{front_stays}
use Rattle.writing_laws.proofs.filled_front_stays.Goals as goal

pub returns : goal.returns
returns c = front_stays
