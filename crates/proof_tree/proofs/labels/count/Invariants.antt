use Rattle.std.proofs.Common.{◌≡◌, fold, take}
use Rattle.proof_tree.specs.Graphs.{added_count}
use Rattle.proof_tree.proofs.labels.count.Given as goal

abbrev pub invariant-loop-number : goal.invariant-loop-number
invariant-loop-number l = l.count ≡ fold (added_count l.counts) 1 (take l.number-index l.below)
