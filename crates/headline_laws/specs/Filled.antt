-- The answer to a worksheet whose steps are filled says all that is said of `auto`.
use Rattle.std.specs.Prelude.{ℕ, List}
use Rattle.auto_model.specs.AutoFilled.{AutoAnswers}
use Rattle.call_answers.specs.declared.ending.Ending.{Ending}
use Rattle.call_answers.specs.Endings.{Gives}
use Rattle.call_answers.specs.Fills.{Fills}
use Rattle.mm_model.specs.Book.{Database}
use Rattle.written_model.specs.declared.options.Options.{Options}
use Rattle.written_model.specs.Opened.{IsOpened}
use Rattle.written_model.specs.Written.{Answer}

-- a call that gives the answer fills: its proof is accepted, an unfinished worksheet has none, and again it is written as it is
abbrev pub AnswerIsFilled : Database → List ℕ → Options → Answer → Ending → Type 0
AnswerIsFilled db text options answer end = IsOpened options.kinds db → AutoAnswers db text options answer → Gives db options answer end → Fills db options text end
