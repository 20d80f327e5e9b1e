use Rattle.std.proofs.Common.{◌≡◌, map, take}
use Rattle.sheet_writing.specs.Sheets.{pair_line}
use Rattle.sheet_writing.proofs.writing.written_pairs.Given as goal

abbrev pub invariant-loop-pair : goal.invariant-loop-pair
invariant-loop-pair l = l.written.items ≡ map (pair_line l.frames.symbols) (take l.pair-index l.pairs)
