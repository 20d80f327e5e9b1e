use Rattle.std.proofs.Common.{inl}
use Rattle.mmp_run.proofs.Refusals.{refused_long}
use Rattle.mmp_run.proofs.opening.open_big.Goals as goal

pub returns : goal.returns
returns c = λ told before now name long. inl (refused_long told name c.in_ok-end.end c.in_ok-end.ensures long)
