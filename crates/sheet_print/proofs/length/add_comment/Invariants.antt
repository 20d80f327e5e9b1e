use Rattle.std.proofs.Common.{◌≡◌, ◌+◌, length, take}
use Rattle.std.specs.Prelude.{flat_map}
use Rattle.sheet_text.specs.Layout.{ended}
use Rattle.sheet_print.specs.Pieces.{counted}
use Rattle.sheet_print.proofs.length.add_comment.Given as goal

abbrev pub invariant-loop-line : goal.invariant-loop-line
invariant-loop-line l = l.total ≡ counted (l.initial.total + length (flat_map ended (take l.line-index l.lines)))
