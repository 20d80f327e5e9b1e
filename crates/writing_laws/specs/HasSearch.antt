-- The search for references has an answer.
use Rattle.std.specs.Prelude.{ℕ, List, Option}
use Rattle.mm_base.specs.declared.kinds.Kinds.{Kinds}
use Rattle.mm_base.specs.declared.symbols.Pair.{Pair}
use Rattle.mm_model.specs.Book.{Database}
use Rattle.written_model.specs.declared.options.DvMode.{DvMode}
use Rattle.written_model.specs.WrittenSteps.{WrittenStep}
use Rattle.written_model.specs.Found.{Choice, Fits, IsFound, IsSearched}
use Rattle.written_model.specs.Opened.{IsOpened}
use Rattle.writing_laws.specs.Decisions.{Decided}

-- whether a choice fits is decided; there is a first one that fits, or none; and the step becomes something
pub record HasSearch (db : Database) (place : ℕ) (mode : DvMode) (allowed : List Pair) (es : List WrittenStep) (e : WrittenStep) : Type 0 where
  pub decides : (c : Choice) → Decided (Fits db place mode allowed es e c)
  pub finds : (o : Option Choice) × IsFound db place mode allowed es e o
  pub becomes : (f : WrittenStep) × IsSearched db place mode allowed es e f

abbrev pub EachIsSearched : Kinds → Database → Type 0
EachIsSearched kinds db = (place : ℕ) (mode : DvMode) (allowed : List Pair) (es : List WrittenStep) (e : WrittenStep) → IsOpened kinds db → HasSearch db place mode allowed es e
