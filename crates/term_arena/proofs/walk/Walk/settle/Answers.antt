use Rattle.std.proofs.Common.{ap, ◌∙◌}
use Rattle.std.specs.Prelude.{reverse}
use Rattle.term_arena.proofs.WalkLaws.{walk_settle, states_settled, reverse_push}
use Rattle.term_arena.proofs.walk.Walk.settle.Goals as goal

pub invariant_of-self : goal.invariant_of-self
invariant_of-self c =
    let now = c.self.inside in
    walk_settle now.stamps.items now.round now.path c.back_to.new.self c.in-Some.i c.self.invariant c.in-Some.ensures.0 c.in-Some.ensures.2

pub returns-in-Some : goal.returns-in-Some
returns-in-Some c =
    let now = c.self.inside in
    rw (← c.self.view_is) (
      c.in-Some.i,
      ap reverse c.in-Some.ensures.0 ∙ reverse_push c.back_to.new.self.entries c.in-Some.i,
      states_settled now.stamps.items now.round now.path now.path c.in-Some.i c.self.invariant,
    )
