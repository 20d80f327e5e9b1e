use Rattle.std.proofs.Common.{◌≡◌, map, take}
use Rattle.proof_export.specs.Sheets.{token_in}
use Rattle.proof_export.proofs.sheet.tokens.Given as goal

abbrev pub invariant-loop-symbol : goal.invariant-loop-symbol
invariant-loop-symbol l = l.tokens.items ≡ map (token_in l.frames.symbols) (take l.symbol-index l.formula)
