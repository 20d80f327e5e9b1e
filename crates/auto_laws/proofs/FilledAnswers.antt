-- The answer to a worksheet whose steps are filled is the answer to the filled worksheet.
use Rattle.std.specs.Prelude.{◌≡◌, ℕ, List, None}
use Rattle.mm_model.specs.Book.{Database}
use Rattle.sheet_text.specs.TextFaults.{text_fault}
use Rattle.written_model.specs.declared.options.Options.{Options}
use Rattle.written_model.specs.Written.{Writing, Writes, HasNoLateFault, Answers, wrote}
use Rattle.auto_model.specs.AutoFilled.{AutoAnswers}

-- a text, and that the worksheet is what it becomes, without a fault
pub record IsAnswered (db : Database) (options : Options) (w : Writing) : Type 0 where
  pub text : List ℕ
  pub sound : text_fault text ≡ None
  pub writes : Writes db text options w
  pub late : HasNoLateFault db options w

pub answered : (db : Database) (text : List ℕ) (options : Options) (w : Writing) → Answers db text options (wrote w) → IsAnswered db options w
answered db text options w (Answers.written sound writes late) = record { text = text; sound = sound; writes = writes; late = late }

pub filled_answered : (db : Database) (text : List ℕ) (options : Options) (w : Writing) → AutoAnswers db text options (wrote w) → IsAnswered db options w
filled_answered db text options w (AutoAnswers.again items first filled second) = answered db _ options w second
