use Rattle.std.proofs.Common.{◌≡◌, length, Some, None, sym, ◌∙◌, arith}
use Rattle.term_model.specs.Links.{target_of}
use Rattle.term_arena.specs.Inside.{links_of}
use Rattle.term_model.proofs.LinkLaws.{target_ends, target_hops, target_below, end_of_unbound}
use Rattle.term_arena.proofs.arena.Arena.follow.Goals as goal

pub loop-to-smaller : goal.loop-to-smaller
loop-to-smaller c =
    let inside = c.self.inside in
    let links = links_of inside.trail.entries inside.terms.bound in
    let i = c.loop-to.at in
    let bound_to : target_of links i ≡ Some c.in-Some.to =
    sym (c.self.invariant.table.each i) ∙ sym c.target.ensures ∙ c.in-Some.is in
    omega (arith, target_hops (length inside.terms.nodes) links i c.in-Some.to c.self.invariant.store.in_order bound_to)

pub loop-to-preserved : goal.loop-to-preserved
loop-to-preserved c =
    let inside = c.self.inside in
    let links = links_of inside.trail.entries inside.terms.bound in
    let i = c.loop-to.at in
    let bound_to : target_of links i ≡ Some c.in-Some.to =
    sym (c.self.invariant.table.each i) ∙ sym c.target.ensures ∙ c.in-Some.is in
    record {
      leads = sym (target_ends (length inside.terms.nodes) links i c.in-Some.to c.self.invariant.store.in_order bound_to) ∙ c.loop-to.invariant.leads;
      below = target_below (length inside.terms.nodes) links i c.in-Some.to c.self.invariant.store.in_order bound_to;
    }

pub returns-clause-end : goal.returns-clause-end
returns-clause-end c =
    let inside = c.self.inside in
    let links = links_of inside.trail.entries inside.terms.bound in
    let i = c.loop-to.at in
    let unbound : target_of links i ≡ None =
    sym (c.self.invariant.table.each i) ∙ sym c.target.ensures ∙ c.in_default.is in
    rw (← c.self.view_is) (sym (end_of_unbound links i unbound) ∙ c.loop-to.invariant.leads)

pub returns-clause-below : goal.returns-clause-below
returns-clause-below c = rw (← c.self.view_is) c.loop-to.invariant.below

pub returns-clause-unbound : goal.returns-clause-unbound
returns-clause-unbound c =
    let inside = c.self.inside in
    let i = c.loop-to.at in
    rw (← c.self.view_is) (sym (c.self.invariant.table.each i) ∙ sym c.target.ensures ∙ c.in_default.is)
