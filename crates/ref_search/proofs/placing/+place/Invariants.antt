use Rattle.std.proofs.Common.{length}
use Rattle.std.specs.Option.{option_copied}
use Rattle.ref_search.specs.Placing.{IsPlacedTo}
use Rattle.ref_search.proofs.placing.+place.Given as goal

abbrev pub invariant-loop-i : goal.invariant-loop-i
invariant-loop-i l = IsPlacedTo l.conditions.frame.now l.conditions.vars.now l.initial.bindings.items l.bindings.items l.first l.others l.wanted l.places (option_copied l.conditions.given) l.i

abbrev pub decreases-place : goal.decreases-place
decreases-place l = length l.hyps.now
