use Rattle.std.proofs.Common.{◌≡◌, take}
use Rattle.std.specs.List.{filter}
use Rattle.frame_lists.specs.Together.{has_pair}
use Rattle.frame_lists.proofs.pairs.standing.Given as goal

abbrev pub invariant-loop-pair : goal.invariant-loop-pair
invariant-loop-pair l = l.kept.items ≡ filter (has_pair l.together) (take l.pair-index l.pairs)
