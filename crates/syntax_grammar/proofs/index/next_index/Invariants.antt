use Rattle.std.proofs.Common.{take}
use Rattle.syntax_grammar.specs.Index.{IsTable}
use Rattle.syntax_grammar.specs.Selections.{has_next}
use Rattle.syntax_grammar.proofs.index.next_index.Given as goal

abbrev pub invariant-loop-number : goal.invariant-loop-number
invariant-loop-number l = IsTable has_next (take l.number l.rows) l.index
