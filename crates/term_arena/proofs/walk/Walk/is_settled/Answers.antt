use Rattle.std.proofs.Common.{◌∙◌, ap, eqb, ◌+◌, length, ◌<◌, arith}
use Rattle.std.proofs.lemmas.List.{get_or_read, length-map}
use Rattle.term_arena.specs.Walks.{state_of}
use Rattle.term_arena.proofs.WalkLaws.{settled_read}
use Rattle.term_arena.proofs.walk.Walk.is_settled.Goals as goal

pub returns : goal.returns
returns c =
    let now = c.self.inside in
    let within : c.args.i < length now.stamps.items = omega (arith, rw (← c.self.view_is) at c.requires, length-map now.stamps.items (state_of now.round)) in
    rw (← c.self.view_is)
    (ap (λ stamp. eqb stamp (now.round + 1)) (get_or_read now.stamps.items c.args.i c.index.result.now within c.index.ensures 0)
    ∙ settled_read now.stamps.items now.round now.path c.args.i c.self.invariant)
