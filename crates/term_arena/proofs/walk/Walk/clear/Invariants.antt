use Rattle.std.proofs.Common.{◌≡◌, ◌+◌, length}
use Rattle.term_arena.proofs.walk.Walk.clear.Given as goal

abbrev pub invariant-loop : goal.invariant-loop
invariant-loop l =
    let now = l.self-inside in
    let was = l.initial.self-inside in
    record {
      stamps : now.stamps.items ≡ was.stamps.items;
      round : now.round ≡ was.round;
      room : length now.path.entries + now.path.spare ≡ length was.path.entries + was.path.spare;
    }

abbrev pub decreases-loop : goal.decreases-loop
decreases-loop l = length l.self-inside.path.entries
