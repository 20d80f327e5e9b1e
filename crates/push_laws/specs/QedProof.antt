-- The proof of a finished worksheet is accepted.
use Rattle.std.specs.Prelude.{◌≡◌, ℕ, true, List, length, None}
use Rattle.mm_model.specs.Names.{Name}
use Rattle.mm_model.specs.Book.{Database}
use Rattle.proof_model.specs.declared.code.Code.{Code}
use Rattle.proof_model.specs.Codes.{normal_code, code_of_proof}
use Rattle.proof_model.specs.Machine.{Accepts}
use Rattle.proof_model.specs.ProofCode.{Spells, IsWritable, code_fault, spelled}
use Rattle.proof_model.specs.Proofs.{Proof, postorder}
use Rattle.written_model.specs.declared.options.Options.{Options}
use Rattle.written_model.specs.WrittenSteps.{steps_in}
use Rattle.written_model.specs.Opened.{IsOpened}
use Rattle.written_model.specs.Written.{Writing, Writes, frames_of, written_theorem, qed_proof}

-- the proof of `qed`
abbrev pub the_proof : Database → Options → Writing → Proof
the_proof db options w = qed_proof db (written_theorem db options w) (steps_in w.items)

-- the stack machine accepts its labels, and its compressed code, for the printed theorem with the printed pairs
pub record ProofIsAccepted (db : Database) (options : Options) (w : Writing) : Type 0 where
  pub normal : Accepts (frames_of db) (written_theorem db options w) (normal_code (written_theorem db options w).mandatory (postorder (the_proof db options w)))
  pub compressed : Accepts (frames_of db) (written_theorem db options w) (code_of_proof (written_theorem db options w).mandatory (the_proof db options w))

abbrev pub QedProofIsAccepted : Database → List ℕ → Options → Writing → Type 0
QedProofIsAccepted db text options w = IsOpened options.kinds db → Writes db text options w → w.finished ≡ true → ProofIsAccepted db options w

-- its mandatory hypotheses
abbrev pub mandatory_of : Database → Options → Writing → List Name
mandatory_of db options w = (written_theorem db options w).mandatory

-- its compressed code
abbrev pub the_code : Database → Options → Writing → Code
the_code db options w = code_of_proof (mandatory_of db options w) (the_proof db options w)

-- the compressed code as a text
abbrev pub code_text : Database → Options → Writing → List ℕ
code_text db options w = spelled (length (mandatory_of db options w)) (the_code db options w)

-- the compressed code can be written, and its text has no fault and spells it
pub record CodeIsRead (db : Database) (options : Options) (w : Writing) : Type 0 where
  pub writable : IsWritable (length (mandatory_of db options w)) (the_code db options w)
  pub sound : code_fault (code_text db options w) (mandatory_of db options w) ≡ None
  pub spells : Spells (code_text db options w) (mandatory_of db options w) (the_code db options w)

abbrev pub QedCodeIsRead : Database → List ℕ → Options → Writing → Type 0
QedCodeIsRead db text options w = IsOpened options.kinds db → Writes db text options w → w.finished ≡ true → CodeIsRead db options w
