-- Laws: where the accepted steps can be solved, a most general valuation exists, and each worksheet has an answer.
use Rattle.std.specs.Prelude.{◌≡◌, ℕ, ◌<◌, List, length, Some}
use Rattle.std.specs.List.{AllByRecursion}
use Rattle.mm_base.specs.declared.kinds.Kinds.{Kinds}
use Rattle.mm_model.specs.Book.{Database, position_of}
use Rattle.sheet_text.specs.declared.sheet.Given.{Given}
use Rattle.sheet_text.specs.declared.sheet.Given.TheVariants as given
use Rattle.sheet_text.specs.declared.sheet.Sheet.{Sheet}
use Rattle.solve_model.specs.declared.bound.Bound.{Bound}
use Rattle.solve_model.specs.Bound.{Binds}
use Rattle.solve_model.specs.Solutions.{Valuation, Asked, Solvable}
use Rattle.solve_model.specs.MostGeneral.{IsTheValuation}
use Rattle.written_model.specs.declared.options.Options.{Options}
use Rattle.written_model.specs.Opened.{IsOpened}
use Rattle.written_model.specs.Written.{Answer, Answers}

-- a place names a step of so many
abbrev pub IsPlaceIn : ℕ → Given → Type 0
IsPlaceIn n given.Gap = Unit {0}
IsPlaceIn n (given.Step k) = k < n

-- a candidate asks of steps of the worksheet, and its assertion is usable, before the place, with these trees
pub record IsCandidate (db : Database) (bound : Bound) (x : Asked) : Type 0 where
  pub step : x.step < length bound.steps
  pub places : AllByRecursion (IsPlaceIn (length bound.steps)) x.places
  pub usable : db.usable x.assertion.label ≡ Some x.assertion
  pub before : position_of db x.assertion.label < bound.place

-- where a valuation solves, there is a most general one
abbrev pub HasMostGeneral : Kinds → Database → Sheet → Bound → List Asked → Type 0
HasMostGeneral kinds db sheet bound accepted = IsOpened kinds db → Binds db sheet bound → AllByRecursion (IsCandidate db bound) accepted
    → Solvable db bound accepted → (g : Valuation) × IsTheValuation db bound accepted g

-- each text has an answer
abbrev pub HasAnswer : Database → List ℕ → Options → Type 0
HasAnswer db text options = IsOpened options.kinds db → (a : Answer) × Answers db text options a
