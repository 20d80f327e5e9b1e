use Rattle.std.proofs.Common.{◌≡◌, true, arith}
use Rattle.term_arena.proofs.ArenaLaws.{arena_room}
use Rattle.term_arena.proofs.arena.Arena.ready.Goals as goal

pub invariant_of-self : goal.invariant_of-self
invariant_of-self c =
    let before = c.self.inside in
    let a = c.self.invariant in
    arena_room before.terms.nodes before.terms.bound before.trail c.reserve.new.self before.walk.states before.walk.states before.ready before.ready c.reserve.ensures.entries
    (λ (r : before.ready ≡ true). (omega (arith, a.room r, c.reserve.ensures.kept), a.walk_room r)) a
