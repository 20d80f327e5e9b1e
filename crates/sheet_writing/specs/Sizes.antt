-- The work size of the worksheet that is written. This is part of the proof, and not of the claim.
use Rattle.std.specs.Prelude.{ℕ, ◌+◌, List, length, map, sum}
use Rattle.mm_model.specs.Sizes.{nodes}
use Rattle.mm_database.specs.Opened.{Opened}
use Rattle.sheet_bind.specs.Sizes.{standing_at}
use Rattle.written_steps.specs.declared.draft.DraftStep.{DraftStep}
use Rattle.written_steps.specs.declared.draft.DraftItem.{DraftItem}
use Rattle.written_steps.specs.declared.draft.DraftItem.TheVariants as draft

abbrev pub step_size_in : Opened → ℕ → DraftStep → ℕ
step_size_in d place s = nodes s.tree + standing_at d place s.hyp s.reference (length s.places)

abbrev pub item_size_in : Opened → ℕ → DraftItem → ℕ
item_size_in d place (draft.Comment lines) = 0
item_size_in d place (draft.Step s) = step_size_in d place s

abbrev pub size_in : Opened → ℕ → List DraftItem → ℕ
size_in d place items = sum (map (item_size_in d place) items)
