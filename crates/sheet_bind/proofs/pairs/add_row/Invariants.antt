use Rattle.std.proofs.Common.{◌≡◌, take}
use Rattle.sheet_bind.specs.GivenPairs.{put_row}
use Rattle.sheet_bind.proofs.pairs.add_row.Given as goal

abbrev pub invariant-loop-other : goal.invariant-loop-other
invariant-loop-other l = l.set ≡ put_row l.one l.initial.set (take l.other-index l.others)
