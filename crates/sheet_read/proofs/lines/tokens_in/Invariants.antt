use Rattle.std.proofs.Common.{drop}
use Rattle.sheet_read.specs.Parts.{targets}
use Rattle.sheet_read.proofs.StatementTokens.{Gathers}
use Rattle.sheet_read.proofs.lines.tokens_in.Given as goal

abbrev pub invariant-loop-line : goal.invariant-loop-line
invariant-loop-line l = Gathers (targets l.tokens.items) (drop l.line-index l.more) l.first l.more
