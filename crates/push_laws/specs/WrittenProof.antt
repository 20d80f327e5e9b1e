-- The written text of a finished worksheet proves itself.
use Rattle.std.specs.Prelude.{◌≡◌, ℕ, true, false, List, None}
use Rattle.mm_model.specs.Book.{Database}
use Rattle.sheet_text.specs.Spellable.{IsSpellable}
use Rattle.written_model.specs.declared.options.Options.{Options}
use Rattle.written_model.specs.ProvesItself.{ProvesItself, proof_tokens}
use Rattle.written_model.specs.Opened.{IsOpened}
use Rattle.written_model.specs.Written.{Writing, Writes, HasNoLateFault, written_sheet, written_text}

-- the theorem and the proof are read back from the bytes, and the stack machine accepts it, where the written sheet can be spelled
abbrev pub SpellableProofIsAccepted : Database → List ℕ → Options → Writing → Type 0
SpellableProofIsAccepted db text options w =
    IsOpened options.kinds db → Writes db text options w → IsSpellable (written_sheet db options w) → w.finished ≡ true → ProvesItself db options (written_text db options w)

-- so they are where the written worksheet has no late fault
abbrev pub WrittenProofIsAccepted : Database → List ℕ → Options → Writing → Type 0
WrittenProofIsAccepted db text options w =
    IsOpened options.kinds db → Writes db text options w → HasNoLateFault db options w → w.finished ≡ true → ProvesItself db options (written_text db options w)

-- an unfinished one has no proof
abbrev pub UnfinishedHasNoProof : Database → List ℕ → Options → Writing → Type 0
UnfinishedHasNoProof db text options w =
    IsOpened options.kinds db → Writes db text options w → HasNoLateFault db options w → w.finished ≡ false → proof_tokens (written_text db options w) ≡ None
