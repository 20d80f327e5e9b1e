use Rattle.std.proofs.Common.{◌≡◌, drop}
use Rattle.std.specs.List.{find}
use Rattle.sheet_read.specs.Parts.{lines_in}
use Rattle.sheet_text.specs.SheetStatements.{opens_proof}
use Rattle.sheet_read.proofs.proof_line.find_line.Given as goal

abbrev pub invariant-loop-line : goal.invariant-loop-line
invariant-loop-line l = find opens_proof (lines_in l.lines) ≡ find opens_proof (lines_in (drop l.line-index l.lines))
