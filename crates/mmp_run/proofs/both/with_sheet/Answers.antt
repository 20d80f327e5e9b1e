use Rattle.mmp_run.proofs.MayEnd.{refused_behind}
use Rattle.mmp_run.proofs.both.with_sheet.Goals as goal

pub returns-in-Refused : goal.returns-in-Refused
returns-in-Refused c = λ told before mid now database sheet listed fell is.
    refused_behind told before mid now database sheet c.args.text c.in-Refused.end listed.is_open fell (rw c.in-Refused.is at is)
