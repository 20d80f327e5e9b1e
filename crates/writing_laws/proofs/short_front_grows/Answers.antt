use Rattle.writing_laws.proofs.LongSteps.{grows_short, short_not_late}
use Rattle.writing_laws.proofs.short_front_grows.Goals as goal

pub returns : goal.returns
returns c = record { grows = grows_short; none = short_not_late }
