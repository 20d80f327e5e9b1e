use Rattle.std.proofs.Common.{take}
use Rattle.syntax_grammar.specs.Index.{IsTable}
use Rattle.syntax_grammar.specs.Selections.{begins_slot}
use Rattle.syntax_grammar.proofs.index.slot_index.Given as goal

abbrev pub invariant-loop-number : goal.invariant-loop-number
invariant-loop-number l = IsTable begins_slot (take l.number l.rows) l.index
