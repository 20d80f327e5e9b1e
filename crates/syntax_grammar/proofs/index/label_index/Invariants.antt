use Rattle.std.proofs.Common.{take}
use Rattle.syntax_grammar.specs.Index.{IsIndex}
use Rattle.syntax_grammar.specs.Selections.{has_label}
use Rattle.syntax_grammar.proofs.index.label_index.Given as goal

abbrev pub invariant-loop-number : goal.invariant-loop-number
invariant-loop-number l = IsIndex has_label (take l.number l.rows) l.index
