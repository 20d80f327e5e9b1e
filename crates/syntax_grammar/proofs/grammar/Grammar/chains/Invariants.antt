use Rattle.std.proofs.Common.{◌≡◌, take}
use Rattle.syntax_grammar.specs.Selections.{chains_to}
use Rattle.syntax_grammar.proofs.grammar.Grammar.chains.Given as goal

abbrev pub invariant-loop-row : goal.invariant-loop-row
invariant-loop-row l = l.labels.items ≡ chains_to (take l.row-index l.row-items) l.to
