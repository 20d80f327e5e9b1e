use Rattle.filling_laws.proofs.LeafLaws.{leaves_small}
use Rattle.filling_laws.proofs.leaves_are_small.Goals as goal

pub returns : goal.returns
returns c = leaves_small
