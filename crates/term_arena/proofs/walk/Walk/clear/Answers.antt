use Rattle.std.proofs.Common.{length, ap, arith}
use Rattle.std.specs.Prelude.{reverse}
use Rattle.term_arena.proofs.WalkLaws.{walk_fresh, fresh_states, no_entries, idle_when_new}
use Rattle.term_arena.proofs.walk.Walk.clear.Goals as goal

pub invariant_of-self : goal.invariant_of-self
invariant_of-self c =
    let next = c.next_round-self-inside in
    let none = no_entries c.back_to.new.self.entries (omega (arith, c.in_default.ensures.0, ap (λ noted. length noted.entries) c.in_default.ensures.1)) in
    walk_fresh next.new.stamps.items next.result c.back_to.new.self next.ensures.started next.ensures.limit
    (λ i. omega (arith, next.ensures.past i)) (fresh_states next.new.stamps.items next.result next.ensures.started next.ensures.past) none
    (omega (
      arith,
      c.self.invariant.room,
      c.loop.invariant.room,
      next.ensures.count,
      ap length c.loop.invariant.stamps,
      ap length none,
      ap (λ noted. noted.spare) c.in_default.ensures.1,
      c.in_default.ensures.0,
    ))

pub returns-clause-fresh : goal.returns-clause-fresh
returns-clause-fresh c =
    let next = c.next_round-self-inside in
    fresh_states next.new.stamps.items next.result next.ensures.started next.ensures.past

pub returns-clause-idle : goal.returns-clause-idle
returns-clause-idle c =
    let next = c.next_round-self-inside in
    let none = no_entries c.back_to.new.self.entries (omega (arith, c.in_default.ensures.0, ap (λ noted. length noted.entries) c.in_default.ensures.1)) in
    idle_when_new _ _ (fresh_states next.new.stamps.items next.result next.ensures.started next.ensures.past) (ap reverse none)
