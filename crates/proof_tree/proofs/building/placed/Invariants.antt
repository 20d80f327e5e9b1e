use Rattle.std.proofs.Common.{◌≡◌, take, filter_map}
use Rattle.proof_tree.specs.Given.{item_at}
use Rattle.proof_tree.proofs.building.placed.Given as goal

abbrev pub invariant-loop-place : goal.invariant-loop-place
invariant-loop-place l = l.numbers.items ≡ filter_map (item_at l.proofs) (take l.place-index l.places)
