use Rattle.std.proofs.Common.{refl}
use Rattle.term_arena.proofs.WalkLaws.{room_for, walk_open, states_opened, reverse_push}
use Rattle.term_arena.proofs.walk.Walk.open.Goals as goal

pub note-requires : goal.note-requires
note-requires c =
    let now = c.self.inside in
    let requires = rw (← c.self.view_is) at c.requires in
    room_for now.stamps.items now.round now.path now.path c.args.i c.self.invariant requires.within requires.fresh

pub invariant_of-self : goal.invariant_of-self
invariant_of-self c =
    let now = c.self.inside in
    let requires = rw (← c.self.view_is) at c.requires in
    walk_open now.stamps.items now.round now.path c.note.new.self c.args.i c.self.invariant requires.within requires.fresh c.note.ensures.entries c.note.ensures.spare

pub returns : goal.returns
returns c =
    let now = c.self.inside in
    rw (← c.self.view_is, c.note.ensures.entries, reverse_push now.path.entries c.args.i, states_opened now.stamps.items now.round now.path now.path c.args.i c.self.invariant) refl
