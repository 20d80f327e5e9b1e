use Rattle.mm_frames.proofs.Loop.{GoesTo}
use Rattle.mm_frames.proofs.reading.read_statements.Given as goal

abbrev pub invariant-loop-number : goal.invariant-loop-number
invariant-loop-number l = GoesTo l.text l.number l.reader
