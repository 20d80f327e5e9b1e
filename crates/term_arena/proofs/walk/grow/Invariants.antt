use Rattle.std.proofs.Common.{◌≡◌, ◌-◌, ◌≤◌, ℕ, length, max, slice_index_or}
use Rattle.term_arena.proofs.walk.grow.Given as goal

abbrev pub invariant-loop-stamps : goal.invariant-loop-stamps
invariant-loop-stamps l = record {
  same : (i : ℕ) → slice_index_or l.stamps.items i 0 ≡ slice_index_or l.initial.stamps.items i 0;
  longer : length l.initial.stamps.items ≤ length l.stamps.items;
  limit : length l.stamps.items ≤ max l.wanted (length l.initial.stamps.items);
}

abbrev pub decreases-loop-stamps : goal.decreases-loop-stamps
decreases-loop-stamps l = l.wanted - length l.stamps.items
