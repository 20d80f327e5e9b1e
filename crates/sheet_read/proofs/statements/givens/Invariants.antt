use Rattle.std.proofs.Common.{drop}
use Rattle.sheet_read.specs.Parts.{targets}
use Rattle.sheet_read.proofs.Copies.{Gives}
use Rattle.sheet_read.proofs.statements.givens.Given as goal

abbrev pub invariant-loop-entry : goal.invariant-loop-entry
invariant-loop-entry l = Gives l.names l.given.items (targets (drop l.entry-index l.entries)) (targets l.entries)
