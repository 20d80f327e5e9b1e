use Rattle.std.proofs.Common.{◌∙◌, ap}
use Rattle.std.specs.List.{flat_map}
use Rattle.sheet_text.specs.Layout.{ended}
use Rattle.mmp_run.proofs.unify.report_log.Goals as goal

pub returns : goal.returns
returns c = λ kinds text opened.
    c.from_vec.ensures ∙ c.in_ok-text.ensures ∙ ap (flat_map ended) (c.as_slice.ensures ∙ c.in_ok-lines.ensures kinds text opened)
