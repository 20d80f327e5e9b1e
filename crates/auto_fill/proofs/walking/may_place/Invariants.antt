use Rattle.std.proofs.Common.{◌≡◌}
use Rattle.auto_fill.proofs.walking.may_place.Given as goal

abbrev pub invariant-loop-i : goal.invariant-loop-i
invariant-loop-i l = l.bindings.items ≡ l.initial.bindings.items
