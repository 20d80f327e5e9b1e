-- The answer to a worksheet says all that the headline says.
use Rattle.std.specs.Prelude.{ℕ, List}
use Rattle.mm_model.specs.Book.{Database}
use Rattle.written_model.specs.declared.options.Options.{Options}
use Rattle.call_answers.specs.declared.ending.Ending.{Ending}
use Rattle.call_answers.specs.Endings.{Gives, Unifies}
use Rattle.written_model.specs.Opened.{IsOpened}
use Rattle.written_model.specs.Written.{Answer, Answers}

-- a call that gives the answer unifies: its proof is accepted, an unfinished worksheet has none, and again it is written as it is
abbrev pub AnswerIsUnified : Database → List ℕ → Options → Answer → Ending → Type 0
AnswerIsUnified db text options answer end = IsOpened options.kinds db → Answers db text options answer → Gives db options answer end → Unifies db options text end
