use Rattle.std.proofs.Common.{arith}
use Rattle.term_arena.proofs.TermLaws.{entry_within}
use Rattle.term_arena.proofs.terms.Terms.children.Goals as goal

pub slice_bounds-result-end : goal.slice_bounds-result-end
slice_bounds-result-end c =
    let now = c.self.inside in
    let within = entry_within now.entries.items now.children.items now.bound.items c.args.i c.index-entry.result.now c.self.invariant (rw (← c.self.view_is) at c.requires) c.index-entry.ensures in
    omega (arith, within, c.count.ensures, c.deref.ensures.len, c.deref.ensures.value)
