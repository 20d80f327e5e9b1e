use Rattle.std.proofs.Common.{◌≡◌, take, filter_map}
use Rattle.ref_select.specs.Asked.{tree_at}
use Rattle.ref_select.proofs.asked.hyps_of.Given as goal

abbrev pub invariant-loop-place : goal.invariant-loop-place
invariant-loop-place l = l.hyps.items ≡ filter_map (tree_at l.trees) (take l.place-index l.places)
