use Rattle.std.proofs.Common.{◌-◌, ◌^◌}
use Rattle.syntax_grammar.specs.Joins.{is_noted}
use Rattle.syntax_grammar.proofs.ReachLaws.{IsReachedUpTo}
use Rattle.syntax_grammar.proofs.joins.reach.Given as goal

abbrev pub invariant-loop-done : goal.invariant-loop-done
invariant-loop-done l = IsReachedUpTo (is_noted l.ends) l.fn.from.0.0 l.reached l.done

abbrev pub decreases-loop-done : goal.decreases-loop-done
decreases-loop-done l = 2 ^ 64 - l.done
