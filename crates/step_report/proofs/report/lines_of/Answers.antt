use Rattle.std.proofs.Common.{◌∙◌, sym, ap, subst, map}
use Rattle.std.proofs.lemmas.List.{take_all}
use Rattle.written_steps.specs.Drafts.{IsSoundStep, refs}
use Rattle.step_report.specs.Flaws.{line_in}
use Rattle.step_report.proofs.ReportLaws.{all_refs, line_more}
use Rattle.step_report.proofs.report.lines_of.Goals as goal

pub line_of-requires : goal.line_of-requires
line_of-requires c =
    subst (λ r. IsSoundStep c.args.db.now r.now) (sym c.step-item.is)
    (all_refs (IsSoundStep c.args.db.now) c.args.steps.now c.loop-step.step-index c.step-item.result c.requires c.loop-step-test.true)

pub loop-step-preserved : goal.loop-step-preserved
loop-step-preserved c = λ kinds text opened.
    line_more (line_in c.args.db.now c.args.mode c.args.given.now) c.args.steps.now c.loop-step.step-index c.step-item.result c.loop-step.lines.items c.push.new.self.items c.in_ok-line_of.field-0
    c.loop-step-test.true (sym c.step-item.is) (c.loop-step.invariant kinds text opened) (c.in_ok-line_of.ensures kinds text opened) c.in_ok-push.ensures.items

pub returns : goal.returns
returns c = λ kinds text opened.
    c.from_vec.ensures ∙ c.loop-step.invariant kinds text opened
    ∙ ap (λ steps. map (line_in c.args.db.now c.args.mode c.args.given.now) (refs steps)) (take_all c.loop-step.step-index c.args.steps.now c.loop-step-test.false)
