use Rattle.mmp_run.proofs.MayEnd.{may_try}
use Rattle.mmp_run.proofs.call.end_command.Goals as goal

pub returns-in-Trial-clause-answer : goal.returns-in-Trial-clause-answer
returns-in-Trial-clause-answer g c = rw c.in-Trial.is (may_try c.in-Trial.blocks _ _ _ c.end_trial.result c.end_trial.ensures.answer c.end_trial.ensures.ending)
