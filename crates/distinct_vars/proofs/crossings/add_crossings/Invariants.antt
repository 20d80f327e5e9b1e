use Rattle.std.proofs.Common.{◌≡◌, take}
use Rattle.distinct_vars.specs.NeededPairs.{put_all}
use Rattle.distinct_vars.proofs.crossings.add_crossings.Given as goal

abbrev pub invariant-loop-one : goal.invariant-loop-one
invariant-loop-one l = l.set ≡ put_all (take l.one-index l.ones) l.others l.initial.set
