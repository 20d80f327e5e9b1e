use Rattle.std.proofs.Common.{◌≡◌, drop}
use Rattle.sheet_bind.specs.GivenPairs.{put_two}
use Rattle.sheet_bind.proofs.pairs.add_two.Given as goal

abbrev pub invariant-loop-i : goal.invariant-loop-i
invariant-loop-i l = put_two l.set (drop l.i l.symbols) ≡ put_two l.initial.set l.symbols
