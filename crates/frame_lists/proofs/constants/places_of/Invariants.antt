use Rattle.std.proofs.Common.{◌≡◌}
use Rattle.frame_lists.specs.Places.{places_upto}
use Rattle.frame_lists.proofs.constants.places_of.Given as goal

abbrev pub invariant-loop-number : goal.invariant-loop-number
invariant-loop-number l = l.places.items ≡ places_upto l.symbols l.entries l.number
