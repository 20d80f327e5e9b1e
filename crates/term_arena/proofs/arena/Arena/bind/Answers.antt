use Rattle.std.proofs.Common.{◌≡◌, ◌<◌, List, length, None, true, ap, ◌∙◌, arith}
use Rattle.term_model.specs.Links.{Link, target_of, end_of}
use Rattle.term_model.specs.Store.{Store}
use Rattle.term_arena.specs.Inside.{links_of}
use Rattle.term_model.proofs.LinkLaws.{end_unbound, end_below}
use Rattle.term_arena.proofs.ArenaLaws.{arena_bind, count_below, links_of_bind}
use Rattle.term_arena.proofs.arena.Arena.bind.Goals as goal

pub note-requires : goal.note-requires
note-requires c =
    let before = c.self.inside in
    let a = c.self.invariant in
    let ready : before.ready ≡ true = rw (← c.self.view_is) at c.requires.ready in
    let unbound : target_of (links_of before.trail.entries before.terms.bound) c.args.from.0 ≡ None = rw (← c.self.view_is) at c.requires.unbound in
    let within : c.args.from.0 < length before.terms.nodes = rw (← c.self.view_is) at c.requires.from in
    let few = count_below before.terms.bound c.args.from.0 (omega (arith, within, a.same)) (a.table.each c.args.from.0 ∙ unbound) in
    omega (arith, few, a.room ready, a.counted, a.same)

pub invariant_of-self : goal.invariant_of-self
invariant_of-self c =
    let before = c.self.inside in
    let a = c.self.invariant in
    let links = links_of before.trail.entries before.terms.bound in
    let n = length before.terms.nodes in
    let requires = rw (← c.self.view_is) at c.requires in
    let end : c.follow-end.result.0 ≡ end_of links c.args.to.0 = rw (← c.self.view_is) at c.follow-end.ensures.end in
    rw (c.bind.ensures, end) (arena_bind before.terms.nodes before.terms.bound before.trail c.note.new.self before.walk.states before.ready c.args.from.0 (end_of links c.args.to.0) a
    (a.table.each c.args.from.0 ∙ requires.unbound)
    (a.table.each (end_of links c.args.to.0) ∙ end_unbound n links c.args.to.0 a.store.in_order)
    requires.from
    (end_below n links c.args.to.0 a.store.in_order requires.to)
    requires.apart requires.code c.note.ensures.entries c.note.ensures.spare)

pub returns : goal.returns
returns c =
    let before = c.self.inside in
    let a = c.self.invariant in
    let links = links_of before.trail.entries before.terms.bound in
    let requires = rw (← c.self.view_is) at c.requires in
    let end : c.follow-end.result.0 ≡ end_of links c.args.to.0 = rw (← c.self.view_is) at c.follow-end.ensures.end in
    let whole : List Link → Store = λ (ls : List Link). record { nodes = before.terms.nodes; links = ls; ready = before.ready } in
    rw (← c.self.view_is, c.bind.ensures, end, c.note.ensures.entries)
    (ap whole (links_of_bind before.trail.entries before.terms.bound c.args.from.0 (end_of links c.args.to.0)
    (omega (arith, requires.from, a.same)) requires.unbound))
