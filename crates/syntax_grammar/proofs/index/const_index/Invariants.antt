use Rattle.std.proofs.Common.{take}
use Rattle.syntax_grammar.specs.Index.{IsTable}
use Rattle.syntax_grammar.specs.Selections.{begins_const}
use Rattle.syntax_grammar.proofs.index.const_index.Given as goal

abbrev pub invariant-loop-number : goal.invariant-loop-number
invariant-loop-number l = IsTable begins_const (take l.number l.rows) l.index
