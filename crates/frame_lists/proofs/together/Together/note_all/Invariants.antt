use Rattle.std.proofs.Common.{take}
use Rattle.frame_lists.specs.Together.{IsNoted}
use Rattle.frame_lists.proofs.together.Together.note_all.Given as goal

abbrev pub invariant-loop-pair : goal.invariant-loop-pair
invariant-loop-pair l = IsNoted l.initial.self l.number (take l.pair-index l.pairs) l.self
