use Rattle.term_arena.specs.Walks.{IsWalking, work_left}
use Rattle.term_arena.proofs.cycles.settle.Given as goal

abbrev pub invariant-loop-last : goal.invariant-loop-last
invariant-loop-last l = IsWalking l.terms.nodes l.terms.bound l.root l.fn.walk l.walk

abbrev pub decreases-loop-last : goal.decreases-loop-last
decreases-loop-last l = work_left l.walk.states
