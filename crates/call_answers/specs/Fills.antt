-- What `auto` answers to a worksheet without a fault of its text: the worksheet with its steps filled, as it is unified.
use Rattle.std.specs.Prelude.{◌≡◌, ℕ, List, None}
use Rattle.auto_model.specs.AutoFilled.{AutoAnswers}
use Rattle.call_answers.specs.declared.ending.Ending.{Ending}
use Rattle.call_answers.specs.Endings.{Gives}
use Rattle.mm_base.specs.declared.status.Status.TheVariants as status
use Rattle.mm_model.specs.Book.{Database}
use Rattle.written_model.specs.declared.options.Options.{Options}
use Rattle.written_model.specs.ProvesItself.{ProvesItself, IsFixed, proof_tokens}
use Rattle.written_model.specs.Written.{Writing, Answer, wrote, written_text}

-- filling the text again writes the same bytes
pub record IsFilledAgain (db : Database) (options : Options) (text : List ℕ) : Type 0 where
  pub writing : Writing
  pub answers : AutoAnswers db text options (wrote writing)
  pub same_text : written_text db options writing ≡ text

-- the answer is the first fault of the worksheet, or of what it becomes with its steps filled; or this is written, and told of as
-- `unify` does; a finished one carries a proof that is accepted for what is printed, an unfinished one none; and again it is written
-- as it is, by `unify` and by `auto`
pub record Fills (db : Database) (options : Options) (sheet : List ℕ) (end : Ending) : Type 0 where
  pub answer : Answer
  pub answers : AutoAnswers db sheet options answer
  pub gives : Gives db options answer end
  pub proves : end.status ≡ status.Finished → ProvesItself db options end.out
  pub no_proof : end.status ≡ status.Unfinished → proof_tokens end.out ≡ None
  pub again : (w : Writing) → answer ≡ wrote w → IsFixed db options end.out w.finished
  pub filled_again : (w : Writing) → answer ≡ wrote w → IsFilledAgain db options end.out
