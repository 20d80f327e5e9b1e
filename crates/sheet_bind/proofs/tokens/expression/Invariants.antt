use Rattle.std.proofs.Common.{◌≡◌, take}
use Rattle.sheet_bind.specs.Seen.{expression_at}
use Rattle.sheet_bind.proofs.tokens.expression.Given as goal

abbrev pub invariant-loop-token : goal.invariant-loop-token
invariant-loop-token l = l.leaves.items ≡ expression_at l.frames l.setting (take l.token-index l.tokens)
