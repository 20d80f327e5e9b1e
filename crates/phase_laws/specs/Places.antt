-- The places of a worksheet that was bound.
use Rattle.std.specs.Prelude.{◌≡◌, ◌<◌, ◌≤◌, ◌^◌, ℕ, List, length, None}
use Rattle.mm_base.specs.Limits.{most_sheet_bytes}
use Rattle.mm_model.specs.Book.{Database}
use Rattle.sheet_text.specs.declared.sheet.Sheet.{Sheet}
use Rattle.sheet_text.specs.Layout.{steps}
use Rattle.sheet_text.specs.Reads.{Reads}
use Rattle.sheet_text.specs.TextFaults.{text_fault}
use Rattle.solve_model.specs.declared.bound.Bound.{Bound}
use Rattle.solve_model.specs.Bound.{Binds}
use Rattle.step_chain.specs.Steps.{ArePlaced}

-- each place names a step, and the steps and the places of each can be counted
pub record IsCounted (s : Sheet) (bound : Bound) : Type 0 where
  pub placed : ArePlaced bound
  pub few : length bound.steps < 2 ^ 32
  pub count : length (steps s) ≡ length bound.steps

-- so it is with what a text of at most 2^24 bytes says, where it is bound
abbrev pub BoundIsCounted : Type 0
BoundIsCounted = (db : Database) (text : List ℕ) (s : Sheet) (bound : Bound) → Reads text s → length text ≤ most_sheet_bytes → Binds db s bound → IsCounted s bound

-- a text without a fault has no more bytes
abbrev pub SoundIsShort : Type 0
SoundIsShort = (text : List ℕ) → text_fault text ≡ None → length text ≤ most_sheet_bytes
