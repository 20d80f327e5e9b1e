use Rattle.std.proofs.Common.{◌∙◌, sym, ap, option_and_then}
use Rattle.std.proofs.lemmas.Result.{IfOk-weaker}
use Rattle.written_steps.specs.Drafts.{use_in}
use Rattle.step_report.specs.Flaws.{flaw_in}
use Rattle.step_report.proofs.report.flaw_of.Goals as goal

pub returns-in-Some : goal.returns-in-Some
returns-in-Some c =
    IfOk-weaker c.flaw_of_use.result _ _
    (λ flaw h kinds text opened. h kinds text opened ∙ ap (λ o. flaw_in c.args.mode c.args.given.now (option_and_then (use_in c.args.db.now) o)) (sym c.in-Some.is)) c.flaw_of_use.ensures
