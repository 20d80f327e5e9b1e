-- What `select` answers of a step of a worksheet without a fault of its text: the labels of the assertions that fit it.
use Rattle.std.specs.Prelude.{◌≡◌, ℕ, List, []}
use Rattle.call_answers.specs.declared.ending.Ending.{Ending}
use Rattle.call_answers.specs.Endings.{Refuses}
use Rattle.fault_lines.specs.FaultLines.{refusal_line}
use Rattle.mm_base.specs.declared.status.Status.TheVariants as status
use Rattle.mm_base.specs.declared.symbols.Label.{Label}
use Rattle.mm_model.specs.Book.{Database}
use Rattle.mm_model.specs.Names.{Name}
use Rattle.select_model.specs.Selected.{SelectAnswer, Selects, bad_sheet, no_such_step, step_open, fits, no_such_step_line, step_open_line, selected_text}
use Rattle.written_model.specs.declared.options.Options.{Options}

-- the labels, one on each line, and nothing in the log
pub record ShowsLabels (db : Database) (ls : List Label) (end : Ending) : Type 0 where
  pub out : end.out ≡ selected_text db ls
  pub log : end.log ≡ []
  pub status : end.status ≡ status.Finished

-- how it is told what is answered of the step of a name
abbrev pub GivesSelection : Database → Name → SelectAnswer → Ending → Type 0
GivesSelection db step (bad_sheet r) end = Refuses end status.Sheet (refusal_line r)
GivesSelection db step no_such_step end = Refuses end status.Sheet (no_such_step_line step)
GivesSelection db step step_open end = Refuses end status.Sheet (step_open_line step)
GivesSelection db step (fits ls) end = ShowsLabels db ls end

-- the step of a name in a worksheet is asked about
pub record Asks (db : Database) (options : Options) (sheet : List ℕ) (step : Name) (end : Ending) : Type 0 where
  pub answer : SelectAnswer
  pub selects : Selects db options sheet step answer
  pub gives : GivesSelection db step answer end
