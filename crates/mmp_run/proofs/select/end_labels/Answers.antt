use Rattle.std.proofs.Common.{refl, ◌∙◌}
use Rattle.mmp_run.proofs.select.end_labels.Goals as goal

pub returns-clause-shows : goal.returns-clause-shows
returns-clause-shows c = λ kinds text opened. record { out = c.in_ok-labels_text.ensures kinds text opened; log = c.from_vec.ensures ∙ c.new.ensures.items; status = refl }
