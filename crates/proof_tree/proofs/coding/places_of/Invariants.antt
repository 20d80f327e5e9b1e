use Rattle.std.proofs.Common.{take}
use Rattle.proof_tree.specs.Coding.{ArePlaces}
use Rattle.proof_tree.proofs.coding.places_of.Given as goal

abbrev pub invariant-loop-place : goal.invariant-loop-place
invariant-loop-place l = ArePlaces (take l.place l.list) l.places.names l.places.places.items
