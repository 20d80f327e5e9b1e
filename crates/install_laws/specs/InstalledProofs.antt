-- The theorems and the proofs of a text with a theorem in it.
use Rattle.std.specs.Prelude.{◌≡◌, ◌≤◌, ℕ, false, List, length, Contains}
use Rattle.mm_model.specs.declared.frames.Frame.{Frame}
use Rattle.mm_model.specs.Names.{Name, label, contains}
use Rattle.mm_model.specs.Statements.{statements}
use Rattle.proof_model.specs.declared.code.Code.{Code}
use Rattle.proof_model.specs.DatabaseProofs.{frames_of_database, theorem_of_frame, proof_of}
use Rattle.proof_model.specs.Machine.{Accepts, proof_fault}
use Rattle.install_model.specs.declared.install.NewTheorem.{NewTheorem}
use Rattle.install_model.specs.Installed.{installed}
use Rattle.install_model.specs.Moved.{block_statements, new_labels, labels_before, moved, moved_frame}
use Rattle.install_laws.specs.TwoDatabases.{labels_named}
use Rattle.install_laws.specs.InstalledStatements.{IsPlainTheorem}
use Rattle.install_laws.specs.InstalledActive.{IsOutside}
use Rattle.install_laws.specs.InstalledDatabase.{HasNewLabels}

-- what an assertion has to prove is what it was, but for its position
abbrev pub TheoremsStay : Type 0
TheoremsStay = (text : List ℕ) (place : ℕ) (t : NewTheorem) → place ≤ length (statements text) → IsPlainTheorem t → IsOutside text place → (f : Frame)
    → theorem_of_frame (statements (installed text place t)) (moved_frame (statements text) place t f)
    ≡ record (theorem_of_frame (statements text) f) { at = moved place (length (block_statements t)) f.at }

-- and so are the words of its proof
abbrev pub ProofsStay : Type 0
ProofsStay = (text : List ℕ) (place : ℕ) (t : NewTheorem) → place ≤ length (statements text) → IsPlainTheorem t → (l : ℕ)
    → proof_of (statements (installed text place t)) (label (moved (labels_before (statements text) place) (length (new_labels t)) l)) ≡ proof_of (statements text) (label l)

-- the stack machine ends as it did on each proof that names no new label
abbrev pub OldProofsEndAlike : Type 0
OldProofsEndAlike = (text : List ℕ) (place : ℕ) (t : NewTheorem) → place ≤ length (statements text) → IsPlainTheorem t → IsOutside text place
    → (f : Frame) (code : Code) → ((name : Name) → Contains (labels_named (theorem_of_frame (statements text) f) code) name → contains (new_labels t) name ≡ false)
    → proof_fault (frames_of_database (statements text)) (theorem_of_frame (statements text) f) code
    ≡ proof_fault (frames_of_database (statements (installed text place t))) (theorem_of_frame (statements (installed text place t)) (moved_frame (statements text) place t f)) code

-- and it accepts each proof that it accepted, where no new label is one of the text
abbrev pub OldProofsStayAccepted : Type 0
OldProofsStayAccepted = (text : List ℕ) (place : ℕ) (t : NewTheorem) → place ≤ length (statements text) → IsPlainTheorem t → IsOutside text place → HasNewLabels text t
    → (f : Frame) (code : Code) → Accepts (frames_of_database (statements text)) (theorem_of_frame (statements text) f) code
    → Accepts (frames_of_database (statements (installed text place t))) (theorem_of_frame (statements (installed text place t)) (moved_frame (statements text) place t f)) code
