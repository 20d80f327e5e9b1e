use Rattle.term_arena.specs.Walks.{IsWalking, work_left, marks_of}
use Rattle.term_model.specs.Sizes.{AreMeasured}
use Rattle.term_arena.proofs.sizes.measure.Given as goal

abbrev pub invariant-loop-last : goal.invariant-loop-last
invariant-loop-last l = record {
  walking : IsWalking l.terms.nodes l.terms.bound l.root l.fn.walk l.walk;
  measured : AreMeasured l.terms.nodes l.terms.bound (marks_of l.walk.states) l.sizes.items;
}

abbrev pub decreases-loop-last : goal.decreases-loop-last
decreases-loop-last l = work_left l.walk.states
