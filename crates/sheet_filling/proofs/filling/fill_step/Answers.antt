use Rattle.std.proofs.lemmas.Result.{IfOk-weaker}
use Rattle.sheet_filling.proofs.StepLaws.{step_filled}
use Rattle.sheet_filling.proofs.filling.fill_step.Goals as goal

pub returns : goal.returns
returns c =
    IfOk-weaker c.filled_step.result _ _
    (λ s h. step_filled c.args.db.now c.args.written.now c.args.number c.args.step c.in_ok-found.found c.frames.result.now s c.frames.ensures h c.in_ok-found.ensures) c.filled_step.ensures
