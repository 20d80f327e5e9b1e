use Rattle.std.proofs.Common.{inl}
use Rattle.mmp_run.proofs.Refusals.{sheet_refused_long}
use Rattle.mmp_run.proofs.sheet.open_big.Goals as goal

pub returns : goal.returns
returns c = λ told before now name long. inl (sheet_refused_long told name c.in_ok-end.end c.in_ok-end.ensures long)
