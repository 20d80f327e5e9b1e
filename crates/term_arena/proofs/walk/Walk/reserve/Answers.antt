use Rattle.std.proofs.Common.{length, ap, ◌∙◌, arith}
use Rattle.term_arena.proofs.WalkLaws.{walk_room, empty_reverse}
use Rattle.term_arena.proofs.walk.Walk.reserve.Goals as goal

pub invariant_of-self-in_err-grow : goal.invariant_of-self-in_err-grow
invariant_of-self-in_err-grow c =
    let now = c.self.inside in
    let cleared = rw (← c.self.view_is) at c.clear.ensures in
    let none = empty_reverse now.path.entries cleared.idle.path in
    walk_room now.stamps.items c.grow.new.stamps.items now.round now.path c.reserve.new.self c.self.invariant cleared.fresh c.in_err-grow.ensures.same
    (c.in_ok-reserve.ensures.entries ∙ none) (omega (arith, ap length none, c.in_err-grow.ensures.limit, c.in_ok-reserve.ensures.spare, c.in_ok-reserve.ensures.kept, c.self.invariant.room))

pub invariant_of-self-2 : goal.invariant_of-self-2
invariant_of-self-2 c =
    let now = c.self.inside in
    let cleared = rw (← c.self.view_is) at c.clear.ensures in
    let none = empty_reverse now.path.entries cleared.idle.path in
    walk_room now.stamps.items c.grow.new.stamps.items now.round now.path c.reserve.new.self c.self.invariant cleared.fresh c.in_ok-grow.ensures.same
    (c.in_ok-reserve.ensures.entries ∙ none) (omega (arith, ap length none, c.in_ok-grow.ensures.limit, c.in_ok-reserve.ensures.spare, c.in_ok-reserve.ensures.kept, c.self.invariant.room))
