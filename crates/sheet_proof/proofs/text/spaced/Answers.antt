use Rattle.std.proofs.Common.{◌∙◌}
use Rattle.sheet_proof.proofs.TextLaws.{spaced_is}
use Rattle.sheet_proof.proofs.text.spaced.Goals as goal

pub returns : goal.returns
returns c =
    spaced_is c.in-Some.first.now c.in-Some.more.now c.args.labels.now c.in_ok-text.text.items c.put_labels.new.text.items c.from_vec-2.result
    c.in-Some.ensures.cases.0 (c.in_ok-text.ensures.items ∙ c.as_slice.ensures) c.in_ok-put_labels.ensures c.from_vec-2.ensures
