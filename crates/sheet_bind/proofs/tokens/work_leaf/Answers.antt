use Rattle.std.proofs.Common.{◌∙◌}
use Rattle.sheet_bind.proofs.Named.{named_is}
use Rattle.sheet_bind.proofs.tokens.work_leaf.Goals as goal

pub returns : goal.returns
returns c = c.leaf_named.ensures ∙ named_is c.args.frames.now.symbols c.args.token.now c.in_ok-name.name c.in_ok-name.ensures.number c.args.codes.now
