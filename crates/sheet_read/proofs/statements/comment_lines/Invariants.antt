use Rattle.std.proofs.Common.{drop, map, ◌∷◌}
use Rattle.sheet_read.specs.Parts.{lines_in}
use Rattle.sheet_read.proofs.Copies.{Copies}
use Rattle.sheet_read.proofs.statements.comment_lines.Given as goal

abbrev pub invariant-loop-line : goal.invariant-loop-line
invariant-loop-line l = Copies l.lines.items (map (λ k. k.bytes) (lines_in (drop l.line-index l.more))) (l.first.bytes.now ∷ map (λ k. k.bytes) (lines_in l.more))
