use Rattle.std.proofs.Common.{◌≡◌, take}
use Rattle.distinct_vars.specs.NeededPairs.{put_row}
use Rattle.distinct_vars.proofs.crossings.add_row.Given as goal

abbrev pub invariant-loop-other : goal.invariant-loop-other
invariant-loop-other l = l.set ≡ put_row (take l.other-index l.others) l.initial.set l.one
