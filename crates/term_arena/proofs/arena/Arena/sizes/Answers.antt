use Rattle.term_model.specs.Store.{IsStore}
use Rattle.term_model.specs.Sizes.{AreSizes}
use Rattle.term_arena.specs.Inside.{links_of}
use Rattle.term_model.proofs.CycleLaws.{cyclic_none}
use Rattle.term_arena.proofs.SinceLaws.{arena_graph}
use Rattle.term_model.proofs.SizeLaws.{tree_sizes}
use Rattle.term_arena.proofs.MeasureLaws.{all_sizes}
use Rattle.term_arena.proofs.arena.Arena.sizes.Goals as goal

pub measure_all-requires-clause-graph : goal.measure_all-requires-clause-graph
measure_all-requires-clause-graph c =
    let now = c.self.inside in
    arena_graph now.terms.nodes now.terms.bound now.trail now.walk.states now.ready c.self.invariant

pub measure_all-requires-clause-acyclic : goal.measure_all-requires-clause-acyclic
measure_all-requires-clause-acyclic c = λ cycle.
    let now = c.self.inside in
    let solved = rw (← c.self.view_is) at c.requires in
    cyclic_none now.terms.nodes (links_of now.trail.entries now.terms.bound) now.terms.bound c.self.invariant.store c.self.invariant.table cycle solved.solution

counted : (c : goal.After-from_vec) → AreSizes c.args.self.now.nodes c.args.self.now.links c.from_vec.result
counted c =
    let now = c.self.inside in
    rw (← c.self.view_is, c.from_vec.ensures)
    (all_sizes now.terms.nodes
    (links_of now.trail.entries
    now.terms.bound) now.terms.bound c.in_ok-sizes.sizes.items c.self.invariant.store c.self.invariant.table c.in_ok-sizes.ensures)

pub returns-clause-sizes : goal.returns-clause-sizes
returns-clause-sizes c = counted c

pub returns-clause-trees : goal.returns-clause-trees
returns-clause-trees c =
    let now = c.self.inside in
    let store : IsStore c.args.self.now.nodes c.args.self.now.links = rw (← c.self.view_is) c.self.invariant.store in
    tree_sizes c.args.self.now.nodes c.args.self.now.links c.from_vec.result store (counted c)
