-- Theorems of a database by their labels. This is part of the proof, and not of the claim.
use Rattle.std.specs.Prelude.{◌≡◌, List, ℕ, Some}
use Rattle.mm_base.specs.declared.symbols.Label.{Label}
use Rattle.mm_model.specs.declared.frames.Frame.{Frame}
use Rattle.mm_model.specs.Frames.{frame_of}
use Rattle.mm_model.specs.Names.{Name, label_named}
use Rattle.mm_model.specs.Statements.{Statement, labels}
use Rattle.proof_model.specs.DatabaseProofs.{proof_of}

-- the label is that of a theorem with this name
pub record IsTheorem (ss : List Statement) (name : List ℕ) (l : Label) : Type 0 where
  pub label_is : label_named (labels ss) name ≡ Some l
  pub frame : Frame
  pub frame_is : frame_of ss l ≡ Some frame
  pub words : List Name
  pub words_are : proof_of ss l ≡ Some words
