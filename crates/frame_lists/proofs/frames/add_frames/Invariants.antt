use Rattle.std.proofs.Common.{◌≡◌, ◌≤◌, length}
use Rattle.frame_lists.specs.Steps.{scope_upto, label_upto}
use Rattle.frame_lists.specs.Together.{IsFront}
use Rattle.frame_lists.proofs.FrameLaws.{Framed}
use Rattle.frame_lists.proofs.frames.add_frames.Given as goal

abbrev pub invariant-loop-number : goal.invariant-loop-number
invariant-loop-number l =
    (l.scope ≡ scope_upto l.listed l.number)
    × (length l.frames ≡ label_upto l.listed l.number)
    × (length l.frames ≤ l.number)
    × Framed l.listed l.frames
    × IsFront l.listed l.scope.distinct l.together
