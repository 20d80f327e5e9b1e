use Rattle.mmp_run.proofs.Refusals.{opened_sheet}
use Rattle.mmp_run.proofs.sheet.open_text.Goals as goal

pub returns-in-Ok : goal.returns-in-Ok
returns-in-Ok c = λ told before now name has. opened_sheet told name c.args.text.now c.in-Ok.sheet c.requires has c.in-Ok.ensures.reads
