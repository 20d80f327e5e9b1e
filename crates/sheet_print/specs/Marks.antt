-- Marks among the items of a worksheet. This is part of the proof, and not of the claim.
use Rattle.std.specs.Prelude.{◌≡◌, ◌≤◌, List, length, take}
use Rattle.sheet_text.specs.declared.sheet.SheetItem.{SheetItem}
use Rattle.sheet_print.specs.declared.index.Mark.{Mark}
use Rattle.sheet_print.specs.Pieces.{names_of}

-- as many steps stand before its place as it says
abbrev pub IsMark : List SheetItem → Mark → Type 0
IsMark items m = (m.place ≤ length items) × (length (names_of (take m.place items)) ≡ m.number)
