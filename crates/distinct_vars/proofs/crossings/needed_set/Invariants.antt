use Rattle.std.proofs.Common.{◌≡◌, [], fold, take}
use Rattle.distinct_vars.specs.NeededPairs.{put_of}
use Rattle.distinct_vars.proofs.crossings.needed_set.Given as goal

abbrev pub invariant-loop-pair : goal.invariant-loop-pair
invariant-loop-pair l = l.set ≡ fold (put_of l.vars l.trees) [] (take l.pair-index l.pairs)
