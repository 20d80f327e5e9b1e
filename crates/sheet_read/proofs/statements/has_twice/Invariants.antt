use Rattle.std.proofs.Common.{drop}
use Rattle.sheet_read.specs.Parts.{targets}
use Rattle.sheet_read.proofs.Copies.{Sees}
use Rattle.sheet_read.proofs.statements.has_twice.Given as goal

abbrev pub invariant-loop-token : goal.invariant-loop-token
invariant-loop-token l = Sees (targets l.seen.keys) (targets (drop l.token-index l.tokens)) (targets l.tokens)
