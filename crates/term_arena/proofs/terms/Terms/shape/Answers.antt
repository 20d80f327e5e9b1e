use Rattle.term_arena.proofs.TermLaws.{shape_at}
use Rattle.term_arena.proofs.terms.Terms.shape.Goals as goal

pub returns : goal.returns
returns c =
    let now = c.self.inside in
    rw (← c.self.view_is) (shape_at now.entries.items now.children.items now.bound.items c.args.i c.index.result.now c.self.invariant (rw (← c.self.view_is) at c.requires) c.index.ensures)
