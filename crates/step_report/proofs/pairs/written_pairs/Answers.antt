use Rattle.std.proofs.Common.{[], ◌∙◌, ap, sym, fold}
use Rattle.std.proofs.lemmas.Result.{IfOk-weaker}
use Rattle.written_model.specs.Pairs.{pairs_of}
use Rattle.written_model.specs.WrittenSteps.{steps_in}
use Rattle.written_steps.specs.Drafts.{items_in}
use Rattle.step_report.specs.PutPairs.{put_draft, put_either}
use Rattle.step_report.proofs.PairLaws.{added_are}
use Rattle.step_report.proofs.pairs.written_pairs.Goals as goal

pub returns-in-Add : goal.returns-in-Add
returns-in-Add c =
    IfOk-weaker c.added_pairs.result _ _
    (λ ps h kinds text opened ordered. h kinds text opened
    ∙ ap (λ given. fold (put_draft c.args.db.now) (fold put_either [] given) c.args.items.now) c.as_slice-in-Add.ensures
    ∙ added_are c.args.db.now c.args.given.now c.args.items.now ordered
    ∙ ap (λ mode. pairs_of mode c.args.given.now (steps_in (items_in c.args.db.now c.args.items.now))) (sym c.in-Add.is)) c.added_pairs.ensures
