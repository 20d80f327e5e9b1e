use Rattle.std.specs.List.{AllByRecursion}
use Rattle.std.proofs.Common.{sym, ap, subst, ◌∙◌}
use Rattle.written_steps.specs.Drafts.{IsSoundStep, refs}
use Rattle.written_steps.proofs.DraftLists.{sound_drafts}
use Rattle.step_report.proofs.DoneLaws.{finished_is}
use Rattle.step_report.proofs.finished.is_finished.Goals as goal

pub are_done-requires-clause-sound : goal.are_done-requires-clause-sound
are_done-requires-clause-sound c =
    subst (AllByRecursion (IsSoundStep c.args.db.now)) (sym (ap refs c.as_slice-2.ensures.value ∙ c.in_ok-steps.ensures)) (sound_drafts c.args.db.now c.args.items.now c.requires)

pub returns : goal.returns
returns c =
    finished_is c.args.db.now c.args.items.now c.as_slice.result.now c.as_slice-2.result.now c.as_slice-3.result.now c.args.report.now c.in_ok-marks.marks.items c.as_slice-4.result.now
    c.are_done.result
    (ap refs c.as_slice.ensures.value ∙ c.in_ok-steps.ensures) (ap refs c.as_slice-2.ensures.value ∙ c.in_ok-steps.ensures) c.as_slice-3.ensures c.as_slice-4.ensures.value
    (c.in_ok-marks.ensures.marked c.args.db.now) c.are_done.ensures
