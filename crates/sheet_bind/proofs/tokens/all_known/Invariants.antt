use Rattle.std.proofs.Common.{◌≡◌, take, true}
use Rattle.sheet_bind.specs.Seen.{are_known}
use Rattle.sheet_bind.proofs.tokens.all_known.Given as goal

abbrev pub invariant-loop-token : goal.invariant-loop-token
invariant-loop-token l = are_known l.frames l.setting (take l.token-index l.tokens) ≡ true
