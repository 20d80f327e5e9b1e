use Rattle.std.proofs.Common.{length}
use Rattle.std.specs.Option.{option_copied}
use Rattle.auto_fill.specs.Walking.{IsWalkedTo}
use Rattle.auto_fill.proofs.walking.+walk.Given as goal

abbrev pub invariant-loop-i : goal.invariant-loop-i
invariant-loop-i l = IsWalkedTo l.conditions.frame.now l.conditions.vars.now l.fn.bindings.items l.bindings.items l.first l.others l.wanted l.places (option_copied l.conditions.given) l.i

abbrev pub decreases-walk : goal.decreases-walk
decreases-walk l = length l.hyps.now
