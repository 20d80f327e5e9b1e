use Rattle.std.proofs.Common.{◌<◌, ◌+◌, ◌^◌, length, ap, arith}
use Rattle.std.proofs.lemmas.List.{length_push}
use Rattle.term_model.specs.Terms.{term_of}
use Rattle.term_arena.specs.Inside.{links_of}
use Rattle.term_arena.proofs.ArenaLaws.{arena_push, links_of_same, bound_at_push}
use Rattle.term_model.proofs.PushLaws.{solved_pushed}
use Rattle.term_arena.proofs.arena.Arena.add.Goals as goal

pub invariant_of-self-2 : goal.invariant_of-self-2
invariant_of-self-2 c =
    let before = c.self.inside in
    let e = term_of c.args.shape c.args.constants c.args.children.now in
    let few : length before.terms.nodes + 1 < 2 ^ 32 = omega (arith, c.in_ok-id.ensures.short, ap length c.in_ok-id.ensures.nodes, length_push before.terms.nodes e) in
    rw (c.in_ok-id.ensures.nodes, c.in_ok-id.ensures.bound)
    (arena_push before.terms.nodes before.terms.bound before.trail before.walk.states before.ready e (rw (← c.self.view_is) at c.requires.below) few c.self.invariant)

pub returns-clause-solved : goal.returns-clause-solved
returns-clause-solved c = λ solved.
    let before = c.self.inside in
    let e = term_of c.args.shape c.args.constants c.args.children.now in
    let links = links_of_same before.trail.entries before.terms.bound _ (bound_at_push before.terms.bound) in
    rw (c.in_ok-id.ensures.nodes, c.in_ok-id.ensures.bound, links)
    (solved_pushed before.terms.nodes (links_of before.trail.entries before.terms.bound) e c.self.invariant.store (rw (← c.self.view_is) at c.requires.below) (rw (← c.self.view_is) at solved))
