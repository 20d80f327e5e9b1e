use Rattle.std.proofs.Common.{take}
use Rattle.syntax_grammar.specs.Joins.{IsReachedToo}
use Rattle.syntax_grammar.proofs.joins.reach_each.Given as goal

abbrev pub invariant-loop-code : goal.invariant-loop-code
invariant-loop-code l = IsReachedToo l.fn.reached l.reached (take l.code-index l.codes)
