use Rattle.std.specs.Fmt.{digits}
use Rattle.mmp_run.proofs.opening.refuse_size.Goals as goal

pub returns : goal.returns
unfolding digits
returns c = c.refuse.ensures
