use Rattle.std.proofs.Common.{◌∙◌, sym, ap, subst}
use Rattle.std.specs.List.{AllByRecursion}
use Rattle.std.proofs.lemmas.Result.{IfOk-weaker}
use Rattle.written_steps.specs.Drafts.{IsSoundStep, refs}
use Rattle.written_steps.proofs.DraftLists.{sound_drafts}
use Rattle.step_report.proofs.ReportLaws.{report_is}
use Rattle.step_report.proofs.report.report_of.Goals as goal

pub lines_of-requires : goal.lines_of-requires
lines_of-requires c =
    subst (AllByRecursion (IsSoundStep c.args.db.now)) (sym (ap refs c.as_slice.ensures.value ∙ c.in_ok-steps.ensures)) (sound_drafts c.args.db.now c.args.items.now c.requires)

pub returns : goal.returns
returns c =
    IfOk-weaker c.lines_of.result _ _
    (λ lines h kinds text opened. h kinds text opened
    ∙ report_is c.args.db.now c.args.mode c.args.given.now c.args.items.now c.as_slice.result.now (ap refs c.as_slice.ensures.value ∙ c.in_ok-steps.ensures)) c.lines_of.ensures
