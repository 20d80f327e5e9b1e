-- Law: the answer to a worksheet whose steps are filled is one.
use Rattle.std.specs.Prelude.{ℕ, List}
use Rattle.mm_model.specs.Book.{Database}
use Rattle.written_model.specs.declared.options.Options.{Options}
use Rattle.written_model.specs.Opened.{IsOpened}
use Rattle.written_model.specs.Written.{Answer}
use Rattle.written_model.specs.WrittenAgain.{SameAnswer}
use Rattle.auto_model.specs.AutoFilled.{AutoAnswers}

-- two answers to a worksheet whose steps are filled are one
abbrev pub FilledAnswersAreOne : Database → List ℕ → Options → Type 0
FilledAnswersAreOne db text options = (a b : Answer) → IsOpened options.kinds db → AutoAnswers db text options a → AutoAnswers db text options b → SameAnswer db options a b
