use Rattle.sheet_read.specs.Parts.{lines_in}
use Rattle.sheet_read.proofs.TextLines.{Keeps}
use Rattle.sheet_read.proofs.lines.lines_not_blank.Given as goal

abbrev pub invariant-loop-line : goal.invariant-loop-line
invariant-loop-line l = Keeps (lines_in l.lines.items) l.number l.line-iterator l.fn.text
