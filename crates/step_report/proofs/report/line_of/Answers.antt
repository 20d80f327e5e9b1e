use Rattle.std.proofs.Common.{◌∙◌, ap}
use Rattle.std.proofs.lemmas.Result.{IfOk-weaker}
use Rattle.step_report.specs.Flaws.{line_by}
use Rattle.step_report.proofs.report.line_of.Goals as goal

pub returns : goal.returns
returns c =
    IfOk-weaker c.line_with.result _ _ (λ line h kinds text opened. h ∙ ap (line_by c.args.step.now) (c.in_ok-flaw.ensures kinds text opened)) c.line_with.ensures
