use Rattle.mmp_run.proofs.Refusals.{listed_text}
use Rattle.mmp_run.proofs.opening.open_text.Goals as goal

pub returns-in-Ok : goal.returns-in-Ok
returns-in-Ok c = λ told before now name has. listed_text told name c.args.text c.as_slice.result.now c.in-Ok.frames c.as_slice.ensures has c.in-Ok.ensures.contents c.in-Ok.ensures.no_fault
