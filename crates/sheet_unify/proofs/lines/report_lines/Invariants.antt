use Rattle.std.proofs.Common.{◌≡◌, map, take}
use Rattle.sheet_unify.specs.Lines.{report_text}
use Rattle.sheet_unify.proofs.lines.report_lines.Given as goal

-- the lines so far are there
abbrev pub invariant-loop-line : goal.invariant-loop-line
invariant-loop-line l = l.lines.items ≡ map (report_text l.db.contents.symbols) (take l.line-index l.report)
