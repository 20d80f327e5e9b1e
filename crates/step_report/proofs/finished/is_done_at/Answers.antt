use Rattle.std.proofs.Common.{sym, subst}
use Rattle.written_steps.specs.Drafts.{IsSoundStep}
use Rattle.step_report.proofs.ReportLaws.{all_refs}
use Rattle.step_report.proofs.DoneLaws.{done_at}
use Rattle.step_report.proofs.finished.is_done_at.Goals as goal

pub is_done-requires : goal.is_done-requires
is_done-requires c =
    subst (λ r. IsSoundStep c.args.db.now r.now) (sym c.index-steps-number.is)
    (all_refs (IsSoundStep c.args.db.now) c.args.steps.now c.args.number c.index-steps-number.result c.requires.sound c.requires.inside)

pub returns-in-Some : goal.returns-in-Some
returns-in-Some c =
    done_at c.args.db.now c.args.steps.now c.args.report.now c.args.marks.now c.args.number c.index-steps-number.result c.in-Some.line.now c.is_done.result c.requires.inside
    c.index-steps-number.is c.in-Some.ensures.lookup.1 c.is_done.ensures
