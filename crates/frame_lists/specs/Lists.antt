-- The labels and statements of a database by number.
use Rattle.std.specs.Prelude.{◌≡◌, List, map}
use Rattle.mm_model.specs.Statements.{Statement, labels}
use Rattle.mm_model.specs.Frames.{symbols, positions}
use Rattle.frame_lists.specs.declared.listed.Listed.{Listed}
use Rattle.frame_lists.specs.Entries.{entry_in}

-- the lists are those of these statements
pub record AreOf (l : Listed) (ss : List Statement) : Type 0 where
  pub labels_are : l.labels ≡ labels ss
  pub positions_are : l.positions ≡ positions ss
  pub entries_are : l.entries ≡ map (entry_in (symbols ss)) ss
