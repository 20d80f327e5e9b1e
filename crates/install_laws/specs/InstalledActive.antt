-- What is active in a text with a theorem in it.
use Rattle.std.specs.Prelude.{◌≡◌, ◌+◌, ◌≤◌, ℕ, List, [], length}
use Rattle.mm_model.specs.Statements.{statements, path}
use Rattle.mm_model.specs.Frames.{active_at, below}
use Rattle.install_model.specs.declared.install.NewTheorem.{NewTheorem}
use Rattle.install_model.specs.Installed.{installed}
use Rattle.install_model.specs.Moved.{block_statements}
use Rattle.install_laws.specs.InstalledStatements.{IsPlainTheorem}

-- no block is open at the place
abbrev pub IsOutside : List ℕ → ℕ → Type 0
IsOutside text place = path (below (statements text) place) ≡ []

-- at a place that is not behind the block the same is active
abbrev pub ActiveStaysBefore : Type 0
ActiveStaysBefore = (text : List ℕ) (place at : ℕ) (t : NewTheorem) → place ≤ length (statements text) → IsPlainTheorem t → at ≤ place
    → active_at (statements (installed text place t)) at ≡ active_at (statements text) at

-- and at one behind it, which has moved by the statements of the block
abbrev pub ActiveStaysBehind : Type 0
ActiveStaysBehind = (text : List ℕ) (place more : ℕ) (t : NewTheorem) → place ≤ length (statements text) → IsPlainTheorem t → IsOutside text place
    → active_at (statements (installed text place t)) (place + length (block_statements t) + more) ≡ active_at (statements text) (place + more)
