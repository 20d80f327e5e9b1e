use Rattle.mmp_run.proofs.Trials.{not_refused}
use Rattle.mmp_run.proofs.trial.want_of.Goals as goal

pub unreachable-requires : goal.unreachable-requires
unreachable-requires c = not_refused c.args.fault c.in_default.not-Memory c.requires.told c.requires.no_other
