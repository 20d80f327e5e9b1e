use Rattle.std.proofs.Common.{refl}
use Rattle.hyp_derive.specs.Hashing.{spread, mix}
use Rattle.hyp_derive.proofs.hash.mixed.Goals as goal

pub returns : goal.returns
unfolding spread mix
returns c = refl
