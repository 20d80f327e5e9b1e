use Rattle.std.proofs.Common.{◌≡◌, length, take}
use Rattle.std.specs.List.{All}
use Rattle.sheet_print.specs.Marks.{IsMark}
use Rattle.sheet_print.specs.Pieces.{names_of}
use Rattle.sheet_print.proofs.index.mark_steps.Given as goal

abbrev pub invariant-loop-place : goal.invariant-loop-place
invariant-loop-place l = (l.number ≡ length (names_of (take l.place l.items))) × All (IsMark l.items) l.marks
