use Rattle.std.proofs.Common.{take}
use Rattle.syntax_grammar.specs.Index.{IsTable}
use Rattle.syntax_grammar.specs.Selections.{is_lone}
use Rattle.syntax_grammar.proofs.index.lone_index.Given as goal

abbrev pub invariant-loop-number : goal.invariant-loop-number
invariant-loop-number l = IsTable is_lone (take l.number l.rows) l.index
