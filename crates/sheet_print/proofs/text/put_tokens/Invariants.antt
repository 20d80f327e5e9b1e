use Rattle.std.proofs.Common.{◌≡◌, ◌++◌, take}
use Rattle.sheet_print.specs.Pieces.{behind_spaces}
use Rattle.sheet_print.proofs.text.put_tokens.Given as goal

abbrev pub invariant-loop-token : goal.invariant-loop-token
invariant-loop-token l = l.text.items ≡ l.initial.text.items ++ behind_spaces (take l.token-index l.tokens)
