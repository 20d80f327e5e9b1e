-- The proofs of a text with a theorem in it that can be put in.
use Rattle.std.specs.Prelude.{◌≡◌, ℕ, true, false, List, None}
use Rattle.call_answers.specs.Kept.{names_label}
use Rattle.call_answers.specs.Verified.{accepted, IsVerdict}
use Rattle.install_model.specs.declared.install.NewTheorem.{NewTheorem}
use Rattle.install_model.specs.Installed.{installed, new_theorem, installed_text}
use Rattle.installed_laws.specs.CanBePutIn.{CanBePutIn}
use Rattle.mm_model.specs.Book.{Database, IsDatabaseOf}
use Rattle.mm_model.specs.Names.{Name, contains}
use Rattle.mm_model.specs.Statements.{statements, labels, database_fault}
use Rattle.written_model.specs.declared.options.Options.{Options}
use Rattle.written_model.specs.Written.{Writing, Writes}

-- a proof that was accepted is; and one that does not name the new theorem is accepted only where it was
pub record OldProofsAreKept (text : List ℕ) (place : ℕ) (t : NewTheorem) : Type 0 where
  pub kept : (theorem : Name) → contains (labels (statements text)) theorem ≡ true → IsVerdict text theorem accepted → IsVerdict (installed text place t) theorem accepted
  pub same : (theorem : Name) → contains (labels (statements text)) theorem ≡ true → names_label text theorem t.name ≡ false
      → IsVerdict (installed text place t) theorem accepted → IsVerdict text theorem accepted

abbrev pub OldProofsEndAsBefore : Type 0
OldProofsEndAsBefore = (text : List ℕ) (place : ℕ) (t : NewTheorem) → CanBePutIn text place t → OldProofsAreKept text place t

-- the new theorem of a finished worksheet is accepted in the text with it, where it can be put in
abbrev pub NewProofIsAccepted : Type 0
NewProofIsAccepted = (text sheet : List ℕ) (db : Database) (options : Options) (w : Writing) → database_fault text ≡ None → IsDatabaseOf options.kinds text db
    → Writes db sheet options w → w.bound.existing ≡ false → w.finished ≡ true → CanBePutIn text w.bound.place (new_theorem db options w)
    → IsVerdict (installed_text db options w text) w.read.theorem accepted
