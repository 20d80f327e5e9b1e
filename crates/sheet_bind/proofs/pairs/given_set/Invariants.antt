use Rattle.std.proofs.Common.{◌≡◌, take, fold, []}
use Rattle.sheet_bind.specs.GivenPairs.{put_line}
use Rattle.sheet_bind.proofs.pairs.given_set.Given as goal

abbrev pub invariant-loop-pair : goal.invariant-loop-pair
invariant-loop-pair l = l.set ≡ fold (put_line l.frames.symbols) [] (take l.pair-index l.pairs)
