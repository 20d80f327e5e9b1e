use Rattle.std.proofs.Common.{◌≡◌}
use Rattle.std.specs.List.{filter, range_with_len, slice_index_or}
use Rattle.written_model.specs.Found.{is_ground}
use Rattle.written_model.specs.WrittenSteps.{no_tree}
use Rattle.auto_fill.proofs.filling.ground_places.Given as goal

abbrev pub invariant-loop-k : goal.invariant-loop-k
invariant-loop-k l = l.places.items ≡ filter (λ k. is_ground (slice_index_or l.trees k no_tree)) (range_with_len 0 l.k)
