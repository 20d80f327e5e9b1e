use Rattle.std.proofs.Common.{◌≡◌, map, take}
use Rattle.proof_export.specs.Sheets.{line_in}
use Rattle.proof_export.proofs.sheet.pair_lines.Given as goal

abbrev pub invariant-loop-pair : goal.invariant-loop-pair
invariant-loop-pair l = l.lines.items ≡ map (line_in l.frames.symbols) (take l.pair-index l.pairs)
