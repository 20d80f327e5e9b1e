use Rattle.sheet_read.proofs.Headers.{header-short}
use Rattle.sheet_read.proofs.forms.header_form.Goals as goal

pub returns-then-tokens-lt4 : goal.returns-then-tokens-lt4
returns-then-tokens-lt4 c = header-short c.args.tokens.now c.if-tokens-lt4.true
