use Rattle.std.proofs.Common.{length}
use Rattle.term_arena.specs.Walks.{marks_of}
use Rattle.term_arena.proofs.StepLaws.{IsScanned}
use Rattle.term_arena.proofs.cycles.unsettled_part.Given as goal

abbrev pub invariant-loop-child : goal.invariant-loop-child
invariant-loop-child l = IsScanned (length l.terms.nodes) (marks_of l.walk.states) l.child-items l.child-index
