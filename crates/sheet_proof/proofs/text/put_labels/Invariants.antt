use Rattle.std.proofs.Common.{◌≡◌, ◌++◌, take}
use Rattle.sheet_proof.specs.Texts.{behind}
use Rattle.sheet_proof.proofs.text.put_labels.Given as goal

-- the labels so far are put in
abbrev pub invariant-loop-label : goal.invariant-loop-label
invariant-loop-label l = l.text.items ≡ l.initial.text.items ++ behind (take l.label-index l.labels)
