use Rattle.std.proofs.Common.{◌≡◌, ◌<◌, length, None, Some, ap, sym, ◌∙◌, arith}
use Rattle.term_model.specs.Links.{Link, link_at}
use Rattle.term_model.specs.Marks.{bound_at}
use Rattle.term_arena.specs.Inside.{links_of}
use Rattle.term_arena.proofs.ArenaLaws.{trail_bound, link_at_trail, length-links_of}
use Rattle.term_model.proofs.LinkLaws.{target_below}
use Rattle.term_arena.proofs.arena.Arena.link.Goals as goal

pub target-requires : goal.target-requires
target-requires c =
    let now = c.self.inside in
    let k : c.args.k < length (links_of now.trail.entries now.terms.bound) = rw (← c.self.view_is) at c.requires in
    let within : c.entry-from.result < length now.terms.bound = (trail_bound now.terms.nodes now.terms.bound now.trail now.walk.states now.ready c.args.k c.entry-from.result c.self.invariant
    (omega (arith, k, length-links_of now.trail.entries now.terms.bound)) c.entry-from.ensures).0 in
    omega arith

pub unreachable-requires : goal.unreachable-requires
unreachable-requires c =
    let now = c.self.inside in
    let k : c.args.k < length (links_of now.trail.entries now.terms.bound) = rw (← c.self.view_is) at c.requires in
    let bound = trail_bound now.terms.nodes now.terms.bound now.trail now.walk.states now.ready c.args.k c.entry-from.result c.self.invariant
    (omega (arith, k, length-links_of now.trail.entries now.terms.bound)) c.entry-from.ensures in
    let read : c.target.result ≡ bound_at now.terms.bound c.entry-from.result = c.target.ensures in
    let impossible : None ≡ Some (link_at (links_of now.trail.entries now.terms.bound) c.args.k).to = sym c.in-None.is ∙ read ∙ bound.1 in
    cc

pub returns-clause-from : goal.returns-clause-from
returns-clause-from c =
    let now = c.self.inside in
    rw (← c.self.view_is) (ap (λ (l : Link). l.from) (sym (link_at_trail now.trail.entries now.terms.bound c.args.k c.entry-from.result c.entry-from.ensures)))

pub returns-clause-to : goal.returns-clause-to
returns-clause-to c =
    let now = c.self.inside in
    let k : c.args.k < length (links_of now.trail.entries now.terms.bound) = rw (← c.self.view_is) at c.requires in
    let bound = trail_bound now.terms.nodes now.terms.bound now.trail now.walk.states now.ready c.args.k c.entry-from.result c.self.invariant
    (omega (arith, k, length-links_of now.trail.entries now.terms.bound)) c.entry-from.ensures in
    let read : c.target.result ≡ bound_at now.terms.bound c.entry-from.result = c.target.ensures in
    let both : Some c.in-Some.to ≡ Some (link_at (links_of now.trail.entries now.terms.bound) c.args.k).to = sym c.in-Some.is ∙ read ∙ bound.1 in
    rw (← c.self.view_is) (cc)

pub returns-clause-from_below : goal.returns-clause-from_below
returns-clause-from_below c =
    let now = c.self.inside in
    let k : c.args.k < length (links_of now.trail.entries now.terms.bound) = rw (← c.self.view_is) at c.requires in
    let bound = trail_bound now.terms.nodes now.terms.bound now.trail now.walk.states now.ready c.args.k c.entry-from.result c.self.invariant
    (omega (arith, k, length-links_of now.trail.entries now.terms.bound)) c.entry-from.ensures in
    rw (← c.self.view_is) (omega (arith, bound.0, c.self.invariant.same))

pub returns-clause-to_below : goal.returns-clause-to_below
returns-clause-to_below c =
    let now = c.self.inside in
    let k : c.args.k < length (links_of now.trail.entries now.terms.bound) = rw (← c.self.view_is) at c.requires in
    let bound = trail_bound now.terms.nodes now.terms.bound now.trail now.walk.states now.ready c.args.k c.entry-from.result c.self.invariant
    (omega (arith, k, length-links_of now.trail.entries now.terms.bound)) c.entry-from.ensures in
    let read : c.target.result ≡ bound_at now.terms.bound c.entry-from.result = c.target.ensures in
    let is : bound_at now.terms.bound c.entry-from.result ≡ Some c.in-Some.to = sym read ∙ c.in-Some.is in
    rw (← c.self.view_is) (target_below (length now.terms.nodes) (links_of now.trail.entries now.terms.bound) c.entry-from.result c.in-Some.to c.self.invariant.store.in_order
    (sym (c.self.invariant.table.each c.entry-from.result) ∙ is))
