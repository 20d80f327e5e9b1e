-- Steps by their formulas, and those that may be taken. But for `IsPlace` this is part of the proof, and not of the claim.
use Rattle.std.specs.Prelude.{◌≡◌, ◌<◌, ℕ, true, List, length, slice_index_or}
use Rattle.std.specs.List.{AllByRecursion}
use Rattle.mm_base.specs.declared.tree.Tree.{Tree}
use Rattle.written_model.specs.Found.{is_ground}
use Rattle.written_model.specs.WrittenSteps.{no_tree}

-- the number of a step without a work variable
pub record IsPlace (trees : List Tree) (k : ℕ) : Type 0 where
  pub within : k < length trees
  pub ground : is_ground (slice_index_or trees k no_tree) ≡ true

abbrev pub ArePlaces : List Tree → List ℕ → Type 0
ArePlaces trees places = AllByRecursion (IsPlace trees) places

-- the step that is to be filled, and those that it may take
pub record IsReady (trees : List Tree) (number : ℕ) (places : List ℕ) : Type 0 where
  pub step : IsPlace trees number
  pub places_are : ArePlaces trees places
