use Rattle.std.proofs.Common.{◌≡◌, take, fold, option_map}
use Rattle.sheet_bind.specs.Found.{found}
use Rattle.sheet_bind.specs.Judging.{with_pair}
use Rattle.sheet_bind.proofs.steps.with_pairs.Given as goal

abbrev pub invariant-loop-pair : goal.invariant-loop-pair
invariant-loop-pair l = option_map found l.least ≡ fold (with_pair l.frames l.setting) (option_map found l.initial.least) (take l.pair-index l.pairs)
