use Rattle.step_filling.proofs.WantedLaws.{IsReadTo}
use Rattle.step_filling.proofs.wanted.read_wanted.Given as goal

abbrev pub invariant-loop-k : goal.invariant-loop-k
invariant-loop-k l = IsReadTo l.trees l.i l.first l.k l.found.items
