use Rattle.std.proofs.Common.{◌∙◌, ap, fold}
use Rattle.step_report.specs.PutPairs.{put_either}
use Rattle.step_report.proofs.PairLaws.{on_ok}
use Rattle.step_report.proofs.pairs.put_use.Goals as goal

pub returns : goal.returns
returns c =
    on_ok c.put_pairs.result c.put_pairs.ensures
    (λ h kinds text opened. h ∙ ap (fold put_either c.args.set.now) (c.as_slice.ensures ∙ c.in_ok-pairs.ensures kinds text opened))
