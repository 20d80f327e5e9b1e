-- The frames by label of a text with a theorem in it.
use Rattle.std.specs.Prelude.{◌≡◌, ◌+◌, ◌≤◌, ℕ, true, false, List, length, take, nat_lt, if◌then◌else◌, option_map}
use Rattle.std.specs.List.{AllByRecursion}
use Rattle.mm_model.specs.declared.frames.Frame.{Frame}
use Rattle.mm_model.specs.Names.{Name, label, contains}
use Rattle.mm_model.specs.Statements.{Statement, statements, labels}
use Rattle.proof_model.specs.DatabaseProofs.{frames_of_database}
use Rattle.install_model.specs.declared.install.NewTheorem.{NewTheorem}
use Rattle.install_model.specs.Installed.{installed}
use Rattle.install_model.specs.Moved.{block_statements, new_labels, moved_frame}
use Rattle.install_laws.specs.InstalledStatements.{IsPlainTheorem}
use Rattle.install_laws.specs.InstalledActive.{IsOutside}

-- no new label is one of the text
abbrev pub HasNewLabels : List ℕ → NewTheorem → Type 0
HasNewLabels text t = AllByRecursion (λ n. contains (labels (statements text)) n ≡ false) (new_labels t)

-- each old label has the frame that it had, up to its position and its label's number
abbrev pub FramesAreMoved : Type 0
FramesAreMoved = (text : List ℕ) (place : ℕ) (t : NewTheorem) → place ≤ length (statements text) → IsPlainTheorem t → IsOutside text place → HasNewLabels text t
    → (name : Name) → contains (labels (statements text)) name ≡ true
    → frames_of_database (statements (installed text place t)) name ≡ option_map (moved_frame (statements text) place t) (frames_of_database (statements text) name)
