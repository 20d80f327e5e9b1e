use Rattle.std.proofs.Common.{◌≡◌, take, fold}
use Rattle.step_report.specs.PutPairs.{put_either}
use Rattle.step_report.proofs.pairs.put_pairs.Given as goal

abbrev pub invariant-loop-pair : goal.invariant-loop-pair
invariant-loop-pair l = l.set ≡ fold put_either l.initial.set (take l.pair-index l.pairs)
