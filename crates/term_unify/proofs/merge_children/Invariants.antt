use Rattle.std.proofs.Common.{◌≡◌, take}
use Rattle.term_model.specs.Store.{ends_of}
use Rattle.term_model.specs.Terms.{term_at, children_of}
use Rattle.term_unify.specs.Steps.{Extends, Forces, HaveSameChildren}
use Rattle.term_unify.proofs.merge_children.Given as goal

abbrev pub invariant-loop-k : goal.invariant-loop-k
invariant-loop-k l =
    let nodes = l.initial.arena.nodes in
    record {
      extends : Extends l.initial.arena l.arena;
      joined : take l.k (ends_of l.arena.links (children_of (term_at nodes l.from.0))) ≡ take l.k (ends_of l.arena.links (children_of (term_at nodes l.to.0)));
      forced : Forces l.initial.arena l.arena (HaveSameChildren l.initial.arena l.from.0 l.to.0);
    }
