use Rattle.std.proofs.Common.{◌≡◌, ◌<◌, ℕ, length, slice_index_or}
use Rattle.term_arena.proofs.walk.wipe.Given as goal

abbrev pub invariant-loop-i : goal.invariant-loop-i
invariant-loop-i l = record {
  count : length l.stamps.items ≡ length l.initial.stamps.items;
  zero : (k : ℕ) → k < l.i → slice_index_or l.stamps.items k 0 ≡ 0;
}
