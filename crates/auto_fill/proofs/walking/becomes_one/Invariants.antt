use Rattle.std.proofs.Common.{◌≡◌, take}
use Rattle.auto_fill.specs.Walking.{BecomesNone}
use Rattle.auto_fill.proofs.walking.becomes_one.Given as goal

abbrev pub invariant-loop-i : goal.invariant-loop-i
invariant-loop-i l = (l.bindings.items ≡ l.initial.bindings.items) × BecomesNone l.vars l.initial.bindings.items l.hyp l.wanted (take l.i l.places)
