use Rattle.std.proofs.Common.{◌≡◌, fold, take}
use Rattle.ref_search.specs.Fitting.{put_label}
use Rattle.ref_search.proofs.fitting.add_labels.Given as goal

abbrev pub invariant-loop-label : goal.invariant-loop-label
invariant-loop-label l = l.numbers.keys ≡ fold put_label l.initial.numbers.keys (take l.label-index l.labels)
