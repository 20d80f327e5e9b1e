use Rattle.std.proofs.Common.{◌≡◌, take}
use Rattle.frame_lists.specs.Steps.{found_more}
use Rattle.frame_lists.proofs.pairs.add_found.Given as goal

abbrev pub invariant-loop-number : goal.invariant-loop-number
invariant-loop-number l = l.pairs.items ≡ found_more l.listed l.set l.initial.pairs.items (take l.number-index l.distinct)
