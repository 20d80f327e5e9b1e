use Rattle.std.proofs.Common.{◌∙◌, sym, eqb-true, length, ◌<◌, arith}
use Rattle.std.proofs.lemmas.Bool.{OnTrue_from}
use Rattle.std.proofs.lemmas.List.{get_or_read, length-map}
use Rattle.term_arena.specs.Walks.{state_of}
use Rattle.term_arena.proofs.WalkLaws.{open_read}
use Rattle.term_arena.proofs.walk.Walk.is_open.Goals as goal

pub returns-clause-on_path : goal.returns-clause-on_path
returns-clause-on_path c =
    let now = c.self.inside in
    let within : c.args.i < length now.stamps.items = omega (arith, rw (← c.self.view_is) at c.requires, length-map now.stamps.items (state_of now.round)) in
    rw (← c.self.view_is) (OnTrue_from _ _ (λ e. open_read now.stamps.items now.round now.path c.args.i c.self.invariant
    (sym (get_or_read now.stamps.items c.args.i c.index.result.now within c.index.ensures 0) ∙ eqb-true c.index.result.now now.round e)))
