use Rattle.std.proofs.Common.{◌≡◌, ◌<◌, ◌≤◌, ℕ, true, Some, length}
use Rattle.std.specs.List.{slice_get}
use Rattle.term_model.specs.Marks.{is_marked, IsPartlySolved}
use Rattle.term_arena.specs.Walks.{marks_of, IsIdle}
use Rattle.term_arena.proofs.cycles.settle_since.Given as goal

abbrev pub invariant-loop-k : goal.invariant-loop-k
invariant-loop-k l = record {
  room : length l.walk.states ≡ length l.fn.walk.states;
  idle : IsIdle l.walk;
  solved : IsPartlySolved l.terms.nodes l.terms.bound (marks_of l.walk.states);
  each : (m i : ℕ) → l.start ≤ m → m < l.k → slice_get l.trail.entries m ≡ Some i → is_marked (marks_of l.walk.states) i ≡ true;
}
