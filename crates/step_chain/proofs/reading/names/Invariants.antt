use Rattle.std.proofs.Common.{take, length}
use Rattle.step_chain.specs.Readings.{AreNames}
use Rattle.step_chain.proofs.reading.names.Given as goal

abbrev pub invariant-loop-work : goal.invariant-loop-work
invariant-loop-work l = AreNames l.arena.links (take l.work-index l.works) (length l.arena.nodes) l.names.items
