use Rattle.std.proofs.Common.{inl}
use Rattle.mmp_run.proofs.Refusals.{text_refused}
use Rattle.mmp_run.proofs.opening.open_fault.Goals as goal

pub returns : goal.returns
returns c = λ told before now name has. inl (text_refused told name c.args.text.now c.in_ok-end.end has c.in_ok-end.ensures)
