use Rattle.std.proofs.Common.{drop}
use Rattle.sheet_read.specs.Parts.{targets}
use Rattle.sheet_read.proofs.Copies.{Copies}
use Rattle.sheet_read.proofs.statements.names_of.Given as goal

abbrev pub invariant-loop-token : goal.invariant-loop-token
invariant-loop-token l = Copies l.names.items (targets (drop l.token-index l.tokens)) (targets l.tokens)
