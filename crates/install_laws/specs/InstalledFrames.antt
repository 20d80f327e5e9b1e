-- The frames of a text with a theorem in it.
use Rattle.std.specs.Prelude.{◌≡◌, ◌+◌, ◌≤◌, ℕ, List, length}
use Rattle.mm_base.specs.declared.symbols.Label.{Label}
use Rattle.mm_model.specs.Statements.{Statement, statements}
use Rattle.mm_model.specs.Frames.{frame_at}
use Rattle.install_model.specs.declared.install.NewTheorem.{NewTheorem}
use Rattle.install_model.specs.Installed.{installed}
use Rattle.install_model.specs.Moved.{block_statements}
use Rattle.install_laws.specs.InstalledStatements.{IsPlainTheorem, names}
use Rattle.install_laws.specs.InstalledActive.{IsOutside}

-- the frame of an assertion that is not behind the block is what it was
abbrev pub FramesStayBefore : Type 0
FramesStayBefore = (text : List ℕ) (place at : ℕ) (t : NewTheorem) → place ≤ length (statements text) → IsPlainTheorem t → at ≤ place
    → (l : Label) (old new : Statement) → names old ≡ names new → frame_at (statements (installed text place t)) l at new ≡ frame_at (statements text) l at old

-- and of one behind it, but for its position, which has moved by the statements of the block
abbrev pub FramesStayBehind : Type 0
FramesStayBehind = (text : List ℕ) (place more : ℕ) (t : NewTheorem) → place ≤ length (statements text) → IsPlainTheorem t → IsOutside text place
    → (l : Label) (old new : Statement) → names old ≡ names new
    → frame_at (statements (installed text place t)) l (place + length (block_statements t) + more) new
    ≡ record (frame_at (statements text) l (place + more) old) { at = place + length (block_statements t) + more }
