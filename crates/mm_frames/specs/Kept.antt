-- What a reader keeps of the statements of a text. This is part of the proof, and not of the claim.
use Rattle.std.specs.Prelude.{◌≡◌, List, map}
use Rattle.mm_model.specs.Statements.{Statement, labels}
use Rattle.mm_model.specs.Frames.{symbols, positions}
use Rattle.frame_lists.specs.Entries.{entry_in}
use Rattle.mm_frames.specs.declared.reader.Reader.{Reader}

-- its lists are those of these statements
pub record IsKept (ss : List Statement) (r : Reader) : Type 0 where
  pub symbols_are : r.symbols ≡ symbols ss
  pub labels_are : r.labels ≡ labels ss
  pub positions_are : r.positions ≡ positions ss
  pub entries_are : r.entries ≡ map (entry_in (symbols ss)) ss
