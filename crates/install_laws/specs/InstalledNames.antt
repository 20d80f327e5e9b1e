-- The labels and the symbols of a text with a theorem in it.
use Rattle.std.specs.Prelude.{◌≡◌, ◌≤◌, ℕ, List, [], ◌∷◌, ◌++◌, length, take, drop, map}
use Rattle.mm_model.specs.Names.{Name}
use Rattle.mm_model.specs.Statements.{statements, labels}
use Rattle.mm_model.specs.Frames.{symbols}
use Rattle.install_model.specs.declared.install.NewTheorem.{NewTheorem}
use Rattle.install_model.specs.Installed.{installed}
use Rattle.install_model.specs.Moved.{new_labels}
use Rattle.install_laws.specs.InstalledStatements.{IsPlainTheorem}

-- the labels in their order: those before the place, the new ones, and the others
abbrev pub LabelsArePutIn : Type 0
LabelsArePutIn = (text : List ℕ) (place : ℕ) (t : NewTheorem) → place ≤ length (statements text) → IsPlainTheorem t
    → labels (statements (installed text place t)) ≡ labels (take place (statements text)) ++ new_labels t ++ labels (drop place (statements text))

-- the symbols have the numbers that they had
abbrev pub SymbolsStay : Type 0
SymbolsStay = (text : List ℕ) (place : ℕ) (t : NewTheorem) → place ≤ length (statements text) → IsPlainTheorem t
    → symbols (statements (installed text place t)) ≡ symbols (statements text)
