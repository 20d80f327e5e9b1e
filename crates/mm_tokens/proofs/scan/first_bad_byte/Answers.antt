use Rattle.std.proofs.Common.{sym, ◌∙◌}
use Rattle.mm_model.specs.Tokens.{is_bad_byte}
use Rattle.mm_tokens.proofs.Marked.{none_found}
use Rattle.mm_tokens.proofs.scan.first_bad_byte.Goals as goal

pub returns : goal.returns
returns c = none_found is_bad_byte c.args.text.now (sym c.has_bad_byte.ensures ∙ c.if-has_bad_byte.false)
