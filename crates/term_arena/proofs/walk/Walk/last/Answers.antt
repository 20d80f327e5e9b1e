use Rattle.std.proofs.Common.{arith}
use Rattle.term_arena.proofs.WalkLaws.{last_first, head_open, open_below, no_entries, idle_when_empty}
use Rattle.term_arena.proofs.walk.Walk.last.Goals as goal

pub returns-then-len-eq0 : goal.returns-then-len-eq0
returns-then-len-eq0 c =
    let now = c.self.inside in
    rw (← c.self.view_is) (idle_when_empty now.stamps.items now.round now.path c.self.invariant (no_entries now.path.entries (omega arith)))

pub returns : goal.returns
returns c =
    let now = c.self.inside in
    let first = last_first now.path.entries _ c.entry.result (omega arith) c.entry.ensures in
    let on_it = head_open _ _ c.entry.result first c.self.invariant.open_path in
    rw (← c.self.view_is) (first, on_it, open_below _ c.entry.result on_it)
