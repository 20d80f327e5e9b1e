use Rattle.std.proofs.Common.{◌≡◌, ◌≤◌}
use Rattle.frame_lists.specs.Steps.{scope_upto, label_upto}
use Rattle.frame_lists.proofs.active.scope_at.Given as goal

abbrev pub invariant-loop-number : goal.invariant-loop-number
invariant-loop-number l = (l.scope ≡ scope_upto l.listed l.number) × (l.label ≡ label_upto l.listed l.number) × (l.label ≤ l.number)
