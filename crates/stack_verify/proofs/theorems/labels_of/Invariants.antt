use Rattle.std.proofs.Common.{◌≡◌, take}
use Rattle.stack_verify.specs.Theorems.{labels_of_hyps}
use Rattle.stack_verify.proofs.theorems.labels_of.Given as goal

abbrev pub invariant-loop-hyp : goal.invariant-loop-hyp
invariant-loop-hyp l = l.labels.items ≡ labels_of_hyps (take l.hyp-index l.hyps)
