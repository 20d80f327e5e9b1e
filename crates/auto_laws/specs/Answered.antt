-- What is said of the answer to a worksheet whose steps are filled.
use Rattle.std.specs.Prelude.{◌≡◌, ℕ, true, false, List, None}
use Rattle.mm_model.specs.Book.{Database}
use Rattle.written_model.specs.declared.options.Options.{Options}
use Rattle.written_model.specs.Opened.{IsOpened}
use Rattle.written_model.specs.ProvesItself.{ProvesItself, IsFixed, proof_tokens}
use Rattle.written_model.specs.Written.{Writing, wrote, written_text}
use Rattle.auto_model.specs.AutoFilled.{AutoAnswers}

module _ (db : Database) (text : List ℕ) (options : Options) (w : Writing) where
  -- a finished one carries a proof that the stack machine accepts for what is printed
  abbrev pub FilledProofIsAccepted : Type 0
  FilledProofIsAccepted = IsOpened options.kinds db → AutoAnswers db text options (wrote w) → w.finished ≡ true → ProvesItself db options (written_text db options w)

  -- an unfinished one has no proof
  abbrev pub FilledHasNoProof : Type 0
  FilledHasNoProof = IsOpened options.kinds db → AutoAnswers db text options (wrote w) → w.finished ≡ false → proof_tokens (written_text db options w) ≡ None

  -- unified again, it is written as it is
  abbrev pub FilledIsFixed : Type 0
  FilledIsFixed = IsOpened options.kinds db → AutoAnswers db text options (wrote w) → IsFixed db options (written_text db options w) w.finished
