-- Part of the proof, and not of the claim: what is noted of lists, so that an item is found in them at once.
use Rattle.std.specs.Prelude.{◌≡◌, ◌≤◌, ℕ, Bool, true, List, slice_get, Some}
use Rattle.mm_base.specs.Rows.{row_at}
use Rattle.mm_base.specs.declared.rows.Rows.{Rows}
use Rattle.formula_parse.specs.declared.reach.Entry.{Entry}
use Rattle.formula_parse.specs.Charts.{IsIn}

-- a place that is marked is in the list
abbrev pub AreMarked : List ℕ → List Bool → Type 0
AreMarked items marks = (p : ℕ) → slice_get marks p ≡ Some true → IsIn items p

-- where an entry stands is noted at its end, but for the first 16
abbrev pub AreNoted : List Entry → Rows ℕ → Type 0
AreNoted items later = (i : ℕ) (x : Entry) → 16 ≤ i → slice_get items i ≡ Some x → IsIn (row_at later x.end) i
