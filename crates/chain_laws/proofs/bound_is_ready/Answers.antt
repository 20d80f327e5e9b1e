use Rattle.chain_laws.proofs.Usable.{bound_ready}
use Rattle.chain_laws.proofs.bound_is_ready.Goals as goal

pub returns : goal.returns
returns c = λ db sheet bound h. bound_ready db sheet bound h
