use Rattle.term_arena.specs.Inside.{links_of}
use Rattle.term_model.proofs.CycleLaws.{start_solution}
use Rattle.term_arena.proofs.SinceLaws.{arena_graph, trail_below, since_exact}
use Rattle.term_arena.proofs.arena.Arena.acyclic.Goals as goal

pub settle_since-requires-clause-graph : goal.settle_since-requires-clause-graph
settle_since-requires-clause-graph c =
    let now = c.self.inside in
    arena_graph now.terms.nodes now.terms.bound now.trail now.walk.states now.ready c.self.invariant

pub settle_since-requires-clause-trail : goal.settle_since-requires-clause-trail
settle_since-requires-clause-trail c =
    let now = c.self.inside in
    trail_below now.terms.nodes now.terms.bound now.trail now.walk.states now.ready c.self.invariant

pub returns-clause-solvable : goal.returns-clause-solvable
returns-clause-solvable c =
    let now = c.self.inside in
    let requires = rw (← c.self.view_is) at c.requires in
    rw (← c.self.view_is) (since_exact now.terms.nodes now.terms.bound now.trail now.walk.states now.ready c.self.invariant
    0 c.settle_since.result requires.closed
    (start_solution now.terms.nodes
    (links_of now.trail.entries now.terms.bound) c.self.invariant.store) c.settle_since.ensures.settled c.settle_since.ensures.cycle)
