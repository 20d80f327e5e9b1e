use Rattle.std.proofs.Common.{◌≡◌, take}
use Rattle.syntax_grammar.proofs.IndexLaws.{labels_of}
use Rattle.syntax_grammar.proofs.grammar.Grammar.by_first.Given as goal

abbrev pub invariant-loop-number : goal.invariant-loop-number
invariant-loop-number l = l.labels.items ≡ labels_of l.self (take l.number-index l.number-items)
