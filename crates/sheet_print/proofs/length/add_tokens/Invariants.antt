use Rattle.std.proofs.Common.{◌≡◌, ◌+◌, length, take}
use Rattle.sheet_print.specs.Pieces.{behind_spaces, counted}
use Rattle.sheet_print.proofs.length.add_tokens.Given as goal

abbrev pub invariant-loop-token : goal.invariant-loop-token
invariant-loop-token l = l.total ≡ counted (l.initial.total + length (behind_spaces (take l.token-index l.tokens)))
