use Rattle.std.proofs.Common.{◌∙◌, sym}
use Rattle.step_report.proofs.PairLaws.{on_ok, sound_by, put_draft_is}
use Rattle.step_report.proofs.pairs.put_item.Goals as goal

pub put_use-requires : goal.put_use-requires
put_use-requires c = sound_by c.args.db.now c.args.item.now c.in-Step.step c.in-Some.by c.in-Step.is c.in-Some.is c.requires

pub returns-in-Some : goal.returns-in-Some
returns-in-Some c =
    on_ok c.put_use.result c.put_use.ensures
    (λ h kinds text opened. h kinds text opened ∙ sym (put_draft_is c.args.db.now c.args.set.now c.args.item.now c.in-Step.step c.in-Some.by c.in-Step.is c.in-Some.is))
