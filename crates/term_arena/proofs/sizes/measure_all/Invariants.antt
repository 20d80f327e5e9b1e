use Rattle.std.proofs.Common.{◌≡◌, ◌<◌, ◌≤◌, ℕ, true, length}
use Rattle.term_model.specs.Marks.{is_marked, IsPartlySolved}
use Rattle.term_arena.specs.Walks.{marks_of, IsIdle}
use Rattle.term_model.specs.Sizes.{AreMeasured}
use Rattle.term_arena.proofs.sizes.measure_all.Given as goal

abbrev pub invariant-loop-root : goal.invariant-loop-root
invariant-loop-root l = record {
  room : length l.terms.nodes ≤ length l.walk.states;
  idle : IsIdle l.walk;
  solved : IsPartlySolved l.terms.nodes l.terms.bound (marks_of l.walk.states);
  measured : AreMeasured l.terms.nodes l.terms.bound (marks_of l.walk.states) l.sizes.items;
  each : (i : ℕ) → i < l.root → is_marked (marks_of l.walk.states) i ≡ true;
}
