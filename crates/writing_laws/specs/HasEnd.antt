-- Whether a worksheet is finished is decided.
use Rattle.std.specs.Prelude.{◌≡◌, ◌<◌, ℕ, List, slice_get, Contains, Some}
use Rattle.mm_base.specs.declared.symbols.Pair.{Pair}
use Rattle.sheet_text.specs.declared.sheet.Given.TheVariants as given
use Rattle.written_model.specs.declared.options.DvMode.{DvMode}
use Rattle.written_model.specs.WrittenSteps.{WrittenStep}
use Rattle.written_model.specs.ProofTrees.{Below, Finished}
use Rattle.writing_laws.specs.Decisions.{Decided}

-- each place names an earlier step
abbrev pub PlacesAreEarlier : List WrittenStep → Type 0
PlacesAreEarlier es = (j : ℕ) (e : WrittenStep) (k : ℕ) → slice_get es j ≡ Some e → Contains e.places (given.Step k) → k < j

pub record EndIsDecided (mode : DvMode) (allowed : List Pair) (es : List WrittenStep) : Type 0 where
  pub below : (i : ℕ) → Decided (Below es i)
  pub finished : Decided (Finished mode allowed es)

abbrev pub HasEnd : Type 0
HasEnd = (mode : DvMode) (allowed : List Pair) (es : List WrittenStep) → PlacesAreEarlier es → EndIsDecided mode allowed es
