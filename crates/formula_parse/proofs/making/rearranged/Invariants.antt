use Rattle.std.proofs.Common.{◌≡◌, ◌<◌, ◌≤◌, ℕ, length, slice_get}
use Rattle.mm_model.specs.Rows.{place_of, slot_order}
use Rattle.formula_parse.proofs.making.rearranged.Given as goal

abbrev pub invariant-loop-k : goal.invariant-loop-k
invariant-loop-k l =
    (length l.children.items ≡ l.k) × (length l.left.items ≡ length l.fn.trees)
    × ((i : ℕ) → i < l.k → slice_get l.children.items i ≡ slice_get l.fn.trees (place_of i (slot_order l.row.items)))
    × ((i : ℕ) → l.k ≤ i → i < length l.row.slots → slice_get l.left.items (place_of i (slot_order l.row.items)) ≡ slice_get l.fn.trees (place_of i (slot_order l.row.items)))
