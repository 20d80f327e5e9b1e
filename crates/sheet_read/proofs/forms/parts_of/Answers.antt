use Rattle.std.proofs.Common.{sym, ◌∙◌}
use Rattle.sheet_read.proofs.Splits.{parts-some}
use Rattle.sheet_read.proofs.forms.parts_of.Goals as goal

pub returns : goal.returns
returns c = c.in_ok-split_at_commas.ensures ∙ sym (parts-some c.args.places.now (sym c.is_empty.ensures ∙ c.if-is_empty.false))
