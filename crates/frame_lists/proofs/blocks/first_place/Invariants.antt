use Rattle.std.proofs.Common.{◌≡◌, ◌≤◌, ℕ, suc}
use Rattle.frame_lists.specs.Places.{depth_upto}
use Rattle.frame_lists.proofs.blocks.first_place.Given as goal

abbrev pub invariant-loop-number : goal.invariant-loop-number
invariant-loop-number l = (l.depth ≡ depth_upto l.entries l.number) × (l.depth ≤ l.number) × ((p : ℕ) → suc l.position ≤ p → p ≤ l.number → depth_upto l.entries p ≡ 0 → ⊥)
