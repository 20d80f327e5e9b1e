use Rattle.std.proofs.Common.{◌≡◌, map, take}
use Rattle.sheet_theorem.specs.Parts.{pair_of}
use Rattle.sheet_theorem.proofs.parts.pairs_of.Given as goal

abbrev pub invariant-loop-line : goal.invariant-loop-line
invariant-loop-line l = l.pairs.items ≡ map pair_of (take l.line-index l.lines)
