use Rattle.std.proofs.Common.{◌∙◌, ap, fold}
use Rattle.std.proofs.lemmas.Result.{IfOk-weaker}
use Rattle.step_report.specs.PutPairs.{put_draft, put_either}
use Rattle.step_report.proofs.pairs.added_pairs.Goals as goal

pub returns : goal.returns
returns c =
    IfOk-weaker c.listed.result _ _
    (λ ps h kinds text opened. h ∙ c.in_ok-put_items.ensures kinds text opened
    ∙ ap (λ set. fold (put_draft c.args.db.now) set c.args.items.now) (c.in_ok-put_pairs.ensures ∙ ap (λ set. fold put_either set c.args.given.now) c.new-set.ensures)) c.listed.ensures
